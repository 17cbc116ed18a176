-- Worked examples of setting the policy of a range of addresses.
use Rattle.std.specs.Prelude.{◌≡◌, ℕ, ◌+◌, ◌-◌, ◌*◌, ◌^◌, false, List, [], ◌∷◌, map, length, Option, Some, None}
use Rattle.nm_types.specs.declared.page.Page.{Page}
use Rattle.nm_types.specs.declared.area.Policy.{Policy}
use Rattle.nm_types.specs.declared.area.Policy.TheVariants.{Default, Bind}
use Rattle.nm_types.specs.declared.errno.Errno.TheVariants.{Esrch, Efault, Einval}
use Rattle.nm_types.specs.State.{State, PlacedArea, page_at}
use Rattle.nm_model.specs.definitions.Effect.{map_new, policy_refusal, set_policy}
use Rattle.nm_model.specs.examples.{A, B, C, one_process, wrote, three_pages, six_pages, frame_shown_at}

-- new pages at the second page of an area are to be on node 1
abbrev pub second_bound : State → ℕ → State
second_bound s len = set_policy s 1 B len (Bind (1 ∷ []))

-- an area of process 1, of one page of the first segment
abbrev pub one_page : ℕ → Policy → PlacedArea
one_page index policy =
    let page : Page = record { segment = 0; index = index } in
    ((1, 16 + index), record { pages = 1; policy = policy; page = page })

-- the pages shown at three addresses of process 1
abbrev pub pages_shown : State → List (Option Page)
pages_shown s = map (page_at s.areas 1) (16 ∷ 17 ∷ 18 ∷ [])

-- the middle one of three pages becomes an area of its own, and each address shows the same page as before
abbrev pub MiddlePageIsSplitOff : Type 0
MiddlePageIsSplitOff =
    (policy_refusal three_pages 1 B 4096 ≡ None)
    × ((second_bound three_pages 4096).areas
    ≡ one_page 0 Default ∷ one_page 1 (Bind (1 ∷ [])) ∷ one_page 2 Default ∷ [])
    × (pages_shown (second_bound three_pages 4096) ≡ pages_shown three_pages)
    × (map (frame_shown_at (second_bound three_pages 4096) 1) (A ∷ B ∷ C ∷ []) ≡ Some 0 ∷ Some 1 ∷ Some 2 ∷ [])

-- a page that has no frame yet gets one on the node of its policy
abbrev pub NewPagesFollowThePolicy : Type 0
NewPagesFollowThePolicy =
    let split = second_bound (map_new one_process 1 A 3 false) 4096 in
    map (frame_shown_at (wrote (wrote split 1 A 0x61) 1 B 0x62) 1) (A ∷ B ∷ C ∷ []) ≡ Some 0 ∷ Some 4 ∷ None ∷ []

-- one byte counts as a page, and no byte as none
abbrev pub LengthsRoundUp : Type 0
LengthsRoundUp =
    (second_bound three_pages 1 ≡ second_bound three_pages 4096)
    × ((second_bound three_pages 4097).areas
    ≡ one_page 0 Default ∷ ((1, 17), record ((one_page 1 (Bind (1 ∷ []))).1) { pages = 2 }) ∷ [])
    × (policy_refusal three_pages 1 0x50000 0 ≡ None) × (second_bound three_pages 0 ≡ three_pages)

-- areas stay separate even with the same policy
abbrev pub AreasAreNotMerged : Type 0
AreasAreNotMerged =
    ((set_policy three_pages 1 B 4096 Default).areas ≡ one_page 0 Default ∷ one_page 1 Default ∷ one_page 2 Default ∷ [])
    × (set_policy (second_bound three_pages 4096) 1 B 1 Default ≡ set_policy three_pages 1 B 4096 Default)

-- the areas of other processes do not change
abbrev pub OthersKeepTheirAreas : Type 0
OthersKeepTheirAreas =
    (length (set_policy six_pages 2 B 1 (Bind (0 ∷ []))).areas ≡ 3)
    × (page_at (set_policy six_pages 2 B 1 (Bind (0 ∷ []))).areas 1 17 ≡ page_at six_pages.areas 1 17)

-- no such process; an address inside a page; an end at 2^64; a page without an area; the first of these decides
abbrev pub RangesAreRefused : Type 0
RangesAreRefused =
    (policy_refusal three_pages 2 (A + 1) 0 ≡ Some Esrch) × (policy_refusal three_pages 1 (A + 1) 0 ≡ Some Einval)
    × (policy_refusal three_pages 1 (2 ^ 64 - 4096) 1 ≡ Some Einval)
    × (policy_refusal three_pages 1 (2 ^ 64 - 8192) 4096 ≡ Some Efault)
    × (policy_refusal three_pages 1 A (3 * 4096 + 1) ≡ Some Efault) × (policy_refusal three_pages 1 A (3 * 4096) ≡ None)
