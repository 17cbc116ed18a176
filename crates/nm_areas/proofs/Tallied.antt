-- Whether a page that a process shows has a frame with a number above 0 in a list by frame.
use Rattle.std.proofs.Common.{◌≡◌, ℕ, ◌+◌, ◌≤◌, ◌<◌, List, true, false, refl, sym, ap, ◌∙◌, arith}
use Rattle.std.specs.Prelude.{Some, None, nat_lt, slice_index_or}
use Rattle.std.specs.List.{AllByRecursion}
use Rattle.std.proofs.lemmas.Bool.{ltb-true, ltb-false}
use Rattle.nm_types.specs.declared.page.Page.{Page}
use Rattle.nm_types.specs.declared.area.Area.{Area}
use Rattle.nm_types.specs.Map.{Map, get, page_cmp, spot_cmp}
use Rattle.nm_types.specs.State.{PlacedArea, area_over, page_of, page_shown, page_at}
use Rattle.nm_types.proofs.Cases.{none_some, some_is}
use Rattle.nm_model.specs.definitions.Areas.{AreasAreApart, IsSomePages}
use Rattle.nm_model.specs.definitions.Areas.{page_in}
use Rattle.nm_model.proofs.areas.Apart.{behind_last, covers_parts, covers_from}
use Rattle.nm_model.proofs.areas.Parted.{Among, among_over, over_among}
use Rattle.nm_model.proofs.areas.Overs.{get_not_none}
use Rattle.nm_areas.proofs.Own.{NoneBegins}
use Rattle.nm_areas.proofs.Searched.{begun_all}
use Rattle.nm_areas.proofs.Filled.{pages_some}

-- a page has no frame with such a number
abbrev pub Uncounted : Map Page ℕ → List ℕ → Page → Type 0
Uncounted place counts p = (frame : ℕ) → get page_cmp place p ≡ Some frame → slice_index_or counts frame 0 ≡ 0

-- the same of the pages of a segment from an index up to another, before an end
abbrev pub NoneTallied : Map Page ℕ → List ℕ → ℕ → ℕ → ℕ → ℕ → Type 0
NoneTallied place counts segment at to past = (i frame : ℕ) → at ≤ i → i < to → i < past → get page_cmp place (page_in segment i) ≡ Some frame → slice_index_or counts frame 0 ≡ 0

module _ (place : Map Page ℕ) (counts : List ℕ) (segment at from past : ℕ) (so_far : NoneTallied place counts segment at from past) where
  -- where nothing has a frame
  pub tallied_gap : (to : ℕ) → ((i : ℕ) → from ≤ i → i < to → get page_cmp place (page_in segment i) ≡ None) → NoneTallied place counts segment at to past
  tallied_gap to gap i frame low high last there =
      elim (nat_lt i from) as (λ b. nat_lt i from ≡ b → slice_index_or counts frame 0 ≡ 0) [
        | true ↦ λ b. so_far i frame low (ltb-true i from b) last there
        | false ↦ λ b. absurd (none_some (sym (gap i (ltb-false i from b) high) ∙ there))
      ] refl

  -- and then one page with a frame
  pub tallied_one : (n frame : ℕ) → ((i : ℕ) → from ≤ i → i < n → get page_cmp place (page_in segment i) ≡ None) → get page_cmp place (page_in segment n) ≡ Some frame → slice_index_or counts frame 0 ≡ 0
      → NoneTallied place counts segment at (n + 1) past
  tallied_one n frame gap there zero i other low high last here =
      elim (nat_lt i n) as (λ b. nat_lt i n ≡ b → slice_index_or counts other 0 ≡ 0) [
        | true ↦ λ b. tallied_gap n gap i other low (ltb-true i n b) last here
        | false ↦ λ b.
            let up : n ≤ i = ltb-false i n b in
            let same : i ≡ n = omega (arith, up, high) in
            ap (λ f. slice_index_or counts f 0) (some_is (sym here ∙ ap (λ (k : ℕ). get page_cmp place (page_in segment k)) same ∙ there)) ∙ zero
      ] refl

module _ (areas : Map (ℕ × ℕ) Area) (place : Map Page ℕ) (counts : List ℕ) (pid first end : ℕ) where
  -- the same of the page numbers of the areas that begin before a page number
  abbrev pub NoneShown : ℕ → Type 0
  NoneShown from = (a : PlacedArea) → Among a areas → a.0.0 ≡ pid → a.0.1 < from → (v : ℕ) → first ≤ v → v < end → a.0.1 ≤ v → v < behind_last a → Uncounted place counts (page_of a v)

  module _ (apart : AreasAreApart areas) where
    own_place : (a : PlacedArea) → a.0.0 ≡ pid → a ≡ ((pid, a.0.1), a.1)
    own_place a own = ap (λ (q : ℕ). ((q, a.0.1), a.1)) own

    -- at the first
    pub shown_begin : (begin : ℕ) → ((v start : ℕ) (x : Area) → first ≤ v → area_over areas pid v ≡ Some ((pid, start), x) → begin ≤ start) → NoneShown begin
    shown_begin begin low a m own before v l h s t =
        let there : area_over areas pid v ≡ Some ((pid, a.0.1), a.1) = over_among areas pid v a apart m (covers_from a pid v own s t) ∙ ap Some (own_place a own) in
        let up = low v a.0.1 a.1 l there in
        absurd (omega (arith, up, before))

    module _ (from : ℕ) (so_far : NoneShown from) where
      -- one more area
      pub shown_next : (start : ℕ) (x : Area) → AllByRecursion IsSomePages areas → NoneBegins areas pid from start → get spot_cmp areas (pid, start) ≡ Some x
          → ((v frame : ℕ) → first ≤ v → v < end → start ≤ v → v < start + x.pages → get page_cmp place (page_of ((0, start), x) v) ≡ Some frame → slice_index_or counts frame 0 ≡ 0) → NoneShown (start + 1)
      shown_next start x whole gap there none a m own before v l h s t frame has =
          elim (nat_lt a.0.1 from) as (λ b. nat_lt a.0.1 from ≡ b → slice_index_or counts frame 0 ≡ 0) [
            | true ↦ λ b. so_far a m own (ltb-true a.0.1 from b) v l h s t frame has
            | false ↦ λ b. elim (nat_lt a.0.1 start) as (λ d. nat_lt a.0.1 start ≡ d → slice_index_or counts frame 0 ≡ 0) [
              | true ↦ λ d. absurd (get_not_none areas a m (ap (λ (q : ℕ). get spot_cmp areas (q, a.0.1)) own ∙ gap a.0.1 (ltb-false a.0.1 from b) (ltb-true a.0.1 start d)))
              | false ↦ λ d.
                  let up : start ≤ a.0.1 = ltb-false a.0.1 start d in
                  let some = pages_some areas pid start x whole there in
                  let same : a.0.1 ≡ start = omega (arith, up, before) in
                  let mine : area_over areas pid start ≡ Some a = over_among areas pid start a apart m (covers_from a pid start own (omega (arith, same)) (omega (arith, same, s, t))) in
                  let its : area_over areas pid start ≡ Some ((pid, start), x) = begun_all areas apart pid start x there start (omega arith) (omega (arith, some)) in
                  let one : a ≡ ((pid, start), x) = some_is (sym mine ∙ its) in
                  let long : a.1.pages ≡ x.pages = ap (λ (a : PlacedArea). a.1.pages) one in
                  none v frame l h (omega (arith, same, s)) (omega (arith, same, long, t)) (ap (λ (a : PlacedArea). get page_cmp place (page_of a v)) (sym one) ∙ has)
            ] refl
          ] refl

      -- after the last
      pub shown_end : NoneBegins areas pid from end → (v : ℕ) (p : Page) (frame : ℕ) → first ≤ v → v < end → page_at areas pid v ≡ Some p → get page_cmp place p ≡ Some frame → slice_index_or counts frame 0 ≡ 0
      shown_end gap v p frame l h shown has =
          elim (area_over areas pid v) as (λ o. area_over areas pid v ≡ o → slice_index_or counts frame 0 ≡ 0) [
            | None ↦ λ o. absurd (none_some (sym (ap (λ o. page_shown o v) o) ∙ shown))
            | Some a ↦ λ o.
                let found = among_over areas pid v a o in
                let parts = covers_parts a pid v found.1 in
                let page : page_of a v ≡ p = some_is (sym (ap (λ o. page_shown o v) o) ∙ shown) in
                elim (nat_lt a.0.1 from) as (λ b. nat_lt a.0.1 from ≡ b → slice_index_or counts frame 0 ≡ 0) [
                  | true ↦ λ b. so_far a found.0 parts.0 (ltb-true a.0.1 from b) v l h parts.1 parts.2 frame (ap (get page_cmp place) page ∙ has)
                  | false ↦ λ b. absurd (get_not_none areas a found.0 (ap (λ (q : ℕ). get spot_cmp areas (q, a.0.1)) parts.0 ∙ gap a.0.1 (ltb-false a.0.1 from b) (omega (arith, parts.1, h))))
                ] refl
          ] refl

-- a page number of an area, and what is shown there
pub shown_there : (areas : Map (ℕ × ℕ) Area) → AreasAreApart areas → (pid start v : ℕ) (x : Area) → get spot_cmp areas (pid, start) ≡ Some x → start ≤ v → v < start + x.pages → page_at areas pid v ≡ Some (page_of ((0, start), x) v)
shown_there areas apart pid start v x there low high = ap (λ o. page_shown o v) (begun_all areas apart pid start x there v low high)

-- a number that is not over 0
pub count_zero : (n : ℕ) → false ≡ nat_lt 0 n → n ≡ 0
count_zero n h = let low : n ≤ 0 = ltb-false 0 n (sym h) in omega (arith, low)

-- a page with a frame that has one over 0
pub tallied_there : (place : Map Page ℕ) (counts : List ℕ) (segment at from past n frame : ℕ) → at ≤ from → (from ≤ n) × (n < past) × (get page_cmp place (page_in segment n) ≡ Some frame) → true ≡ nat_lt 0 (slice_index_or counts frame 0)
    → (i : ℕ) × (f : ℕ) × (at ≤ i) × (i < past) × (get page_cmp place (page_in segment i) ≡ Some f) × (0 < slice_index_or counts f 0)
tallied_there place counts segment at from past n frame up some over =
    let low = some.0 in
    (n, frame, omega (arith, up, low), some.1, some.2, ltb-true 0 (slice_index_or counts frame 0) (sym over))
