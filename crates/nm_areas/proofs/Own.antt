-- The areas of a process that begin in a range of page numbers, one after another.
use Rattle.std.proofs.Common.{◌≡◌, ℕ, ◌+◌, ◌≤◌, ◌<◌, ◌^◌, List, [], ◌∷◌, ◌++◌, Bool, true, false, ◌&&◌, cond, refl, sym, ap, subst, ◌∙◌, arith, inl, inr, eq-eqb, append_assoc, append-nil, map}
use Rattle.std.specs.Prelude.{Some, None, nat_lt, nat_le, ◌==◌}
use Rattle.std.specs.List.{AllByRecursion, filter}
use Rattle.std.specs.List.Sorted.{IsStrictlySortedBy}
use Rattle.std.specs.Map.{keys_of}
use Rattle.std.specs.Ordering.{is_eq}
use Rattle.std.specs.Cmp.{tied_itself}
use Rattle.std.specs.declared.cmp.Ordering.TheVariants.{Less}
use Rattle.std.proofs.lemmas.Bool.{eqb-true, leb-true, ltb-true, ltb-false, lt-ltb, le-leb, and_parts, and_from, false_from_ne_true}
use Rattle.std.proofs.lemmas.Map.Keys.{sorted_head, sorted_tail}
use Rattle.nm_types.specs.declared.area.Area.{Area}
use Rattle.nm_types.specs.declared.area.Segment.{Segment}
use Rattle.nm_types.specs.Map.{Map, get, spot_cmp}
use Rattle.nm_types.specs.State.{PlacedArea}
use Rattle.nm_types.proofs.Cases.{true_false, some_none}
use Rattle.nm_model.specs.definitions.Areas.{IsSomePages, EndsLow}
use Rattle.nm_areas.specs.Lines.{area_line, lines_of}
use Rattle.nm_model.specs.definitions.Areas.{is_own}
use Rattle.nm_areas.specs.declared.lines.Area.{Area as Listed}
use Rattle.nm_types.proofs.Maps.{equal, spot_cmp_total}
use Rattle.nm_model.proofs.areas.Parted.{Among, All-among}
use Rattle.nm_model.proofs.areas.Halves.{less_to, among_keys}
use Rattle.nm_model.proofs.areas.Overs.{get_among, get_not_none}
use Rattle.nm_model.proofs.areas.Painted.{exact_spot}

pub own_parts : (pid at end : ℕ) (a : PlacedArea) → is_own pid at end a ≡ true → (a.0.0 ≡ pid) × (at ≤ a.0.1) × (a.0.1 < end)
own_parts pid at end a h =
    let both = and_parts (a.0.0 == pid) (nat_le at a.0.1 && nat_lt a.0.1 end) h in
    let ends = and_parts (nat_le at a.0.1) (nat_lt a.0.1 end) both.1 in
    (eqb-true a.0.0 pid both.0, leb-true at a.0.1 ends.0, ltb-true a.0.1 end ends.1)

pub own_from : (pid at end : ℕ) (a : PlacedArea) → a.0.0 ≡ pid → at ≤ a.0.1 → a.0.1 < end → is_own pid at end a ≡ true
own_from pid at end a own low high = and_from _ _ (eq-eqb a.0.0 pid own) (and_from _ _ (le-leb at a.0.1 low) (lt-ltb a.0.1 end high))

pub filter_none : (test : PlacedArea → Bool) (areas : List PlacedArea) → ((a : PlacedArea) → Among a areas → test a ≡ true → ⊥) → filter test areas ≡ []
filter_none test [] h = refl
filter_none test (x ∷ areas) h =
    ap (λ b. cond b (x ∷ filter test areas) (filter test areas)) (false_from_ne_true (test x) (h x (inl refl))) ∙ filter_none test areas (λ a m. h a (inr m))

pub filter_same : (test other : PlacedArea → Bool) (areas : List PlacedArea) → ((a : PlacedArea) → Among a areas → test a ≡ other a) → filter test areas ≡ filter other areas
filter_same test other [] h = refl
filter_same test other (x ∷ areas) h =
    ap (λ b. cond b (x ∷ filter test areas) (filter test areas)) (h x (inl refl))
    ∙ ap (λ l. cond (other x) (x ∷ l) l) (filter_same test other areas (λ a m. h a (inr m)))

-- where both follow from one another
pub same_test : (a b : Bool) → (a ≡ true → b ≡ true) → (b ≡ true → a ≡ true) → a ≡ b
same_test true b f g = sym (f refl)
same_test false true f g = absurd (true_false (sym (g refl)))
same_test false false f g = refl

-- no area begins from one page number up to another
abbrev pub NoneBegins : Map (ℕ × ℕ) Area → ℕ → ℕ → ℕ → Type 0
NoneBegins areas pid at to = (v : ℕ) → at ≤ v → v < to → get spot_cmp areas (pid, v) ≡ None

pub own_none : (areas : Map (ℕ × ℕ) Area) (pid at end : ℕ) → NoneBegins areas pid at end → filter (is_own pid at end) areas ≡ []
own_none areas pid at end none =
    filter_none (is_own pid at end) areas (λ a m h.
    let parts = own_parts pid at end a h in
    get_not_none areas a m (ap (λ (p : ℕ). get spot_cmp areas (p, a.0.1)) parts.0 ∙ none a.0.1 parts.1 parts.2))

none_later : (e : PlacedArea) (areas : Map (ℕ × ℕ) Area) (q : ℕ × ℕ) → get spot_cmp (e ∷ areas) q ≡ None → get spot_cmp areas q ≡ None
none_later e areas q h =
    elim (is_eq (spot_cmp q e.0)) as (λ b. cond b (Some e.1) (get spot_cmp areas q) ≡ None → get spot_cmp areas q ≡ None) [
      | true ↦ λ k. absurd (some_none k)
      | false ↦ λ k. k
    ] h

module _ (pid s end : ℕ) (x : Area) (high : s < end) where
  abbrev it : PlacedArea
  it = ((pid, s), x)

  -- after it both tests say the same
  behind_it : (at : ℕ) (areas : Map (ℕ × ℕ) Area) → at ≤ s → AllByRecursion (λ k. spot_cmp (pid, s) k ≡ Less) (keys_of areas) → filter (is_own pid at end) areas ≡ filter (is_own pid (s + 1) end) areas
  behind_it at areas low sorted =
      filter_same (is_own pid at end) (is_own pid (s + 1) end) areas (λ a m.
      let less = less_to (pid, s) a.0 (among_keys (λ k. spot_cmp (pid, s) k ≡ Less) areas a sorted m) in
      same_test _ _
      (λ h.
      let parts = own_parts pid at end a h in
      elim less as (λ _. is_own pid (s + 1) end a ≡ true) [
        | inl k ↦ absurd (omega (arith, k, parts.0))
        | inr k ↦ own_from pid (s + 1) end a parts.0 (omega (arith, k.1)) parts.2
      ])
      (λ h. let parts = own_parts pid (s + 1) end a h in own_from pid at end a parts.0 (omega (arith, low, parts.1)) parts.2))

  first_own : (at : ℕ) (areas : Map (ℕ × ℕ) Area) → at ≤ s → AllByRecursion (λ k. spot_cmp (pid, s) k ≡ Less) (keys_of areas)
      → filter (is_own pid at end) (it ∷ areas) ≡ it ∷ filter (is_own pid (s + 1) end) (it ∷ areas)
  first_own at areas low sorted =
      ap (λ b. cond b (it ∷ filter (is_own pid at end) areas) (filter (is_own pid at end) areas)) (own_from pid at end it refl low high)
      ∙ ap (λ l. it ∷ l) (behind_it at areas low sorted
      ∙ sym (ap (λ b. cond b (it ∷ filter (is_own pid (s + 1) end) areas) (filter (is_own pid (s + 1) end) areas)) (false_from_ne_true (is_own pid (s + 1) end it) (λ h.
      let parts = own_parts pid (s + 1) end it h in absurd (omega (arith, parts.1))))))

  -- one that begins after it is not before it
  not_later : (e : PlacedArea) (areas : Map (ℕ × ℕ) Area) → IsStrictlySortedBy spot_cmp (keys_of (e ∷ areas)) → get spot_cmp areas (pid, s) ≡ Some x → e.0.0 ≡ pid → s < e.0.1 → ⊥
  not_later e areas sorted found own past =
      let less = less_to e.0 (pid, s) (among_keys (λ k. spot_cmp e.0 k ≡ Less) areas it (sorted_head spot_cmp e.0 (keys_of areas) sorted) (get_among areas (pid, s) x found)) in
      elim less as (λ _. ⊥) [
        | inl k ↦ omega (arith, k, own)
        | inr k ↦ omega (arith, k.1, past)
      ]

  -- the first, and those after it
  pub own_next : (areas : Map (ℕ × ℕ) Area) (at : ℕ) → IsStrictlySortedBy spot_cmp (keys_of areas) → at ≤ s → get spot_cmp areas (pid, s) ≡ Some x → NoneBegins areas pid at s
      → filter (is_own pid at end) areas ≡ it ∷ filter (is_own pid (s + 1) end) areas
  own_next [] at sorted low found none = absurd (some_none (sym found))
  own_next (e ∷ areas) at sorted low found none =
      elim (is_eq (spot_cmp (pid, s) e.0)) as (λ b. is_eq (spot_cmp (pid, s) e.0) ≡ b → cond b (Some e.1) (get spot_cmp areas (pid, s)) ≡ Some x → filter (is_own pid at end) (e ∷ areas) ≡ it ∷ filter (is_own pid (s + 1) end) (e ∷ areas)) [
        | true ↦ λ b k.
            let spot : (pid, s) ≡ e.0 = exact_spot (pid, s) e.0 (equal _ b) in
            let value : e.1 ≡ x = cc in
            let here : it ≡ e = ap (λ (z : ℕ × ℕ). (z, x)) spot ∙ ap (λ (z : Area). (e.0, z)) (sym value) in
            subst (λ (y : PlacedArea). filter (is_own pid at end) (y ∷ areas) ≡ it ∷ filter (is_own pid (s + 1) end) (y ∷ areas)) here
            (first_own at areas low (subst (λ (q : ℕ × ℕ). AllByRecursion (λ k. spot_cmp q k ≡ Less) (keys_of areas)) (sym spot) (sorted_head spot_cmp e.0 (keys_of areas) sorted)))
        | false ↦ λ b k.
            let more = own_next areas at (sorted_tail spot_cmp e.0 (keys_of areas) sorted) low k (λ v from to. none_later e areas (pid, v) (none v from to)) in
            let not_behind : is_own pid (s + 1) end e ≡ false = false_from_ne_true _ (λ h.
            let parts = own_parts pid (s + 1) end e h in not_later e areas sorted k parts.0 (omega (arith, parts.1))) in
            let not_here : is_own pid at end e ≡ false = false_from_ne_true _ (λ h.
            let parts = own_parts pid at end e h in
            elim (nat_lt e.0.1 s) as (λ c. nat_lt e.0.1 s ≡ c → ⊥) [
              | true ↦ λ c. get_not_none (e ∷ areas) e (inl refl) (ap (λ (p : ℕ). get spot_cmp (e ∷ areas) (p, e.0.1)) parts.0 ∙ none e.0.1 parts.1 (ltb-true e.0.1 s c))
              | false ↦ λ c. elim (nat_lt s e.0.1) as (λ d. nat_lt s e.0.1 ≡ d → ⊥) [
                | true ↦ λ d. not_later e areas sorted k parts.0 (ltb-true s e.0.1 d)
                | false ↦ λ d.
                    let is : e.0.1 ≡ s = omega (arith, ltb-false e.0.1 s c, ltb-false s e.0.1 d) in
                    let path : (pid, s) ≡ e.0 = λ i. (sym parts.0 i, sym is i) in
                    true_false (sym (ap is_eq (tied_itself spot_cmp_total (pid, s))) ∙ ap (λ (z : ℕ × ℕ). is_eq (spot_cmp (pid, s) z)) path ∙ b)
              ] refl
            ] refl) in
            ap (λ c. cond c (e ∷ filter (is_own pid at end) areas) (filter (is_own pid at end) areas)) not_here ∙ more
            ∙ ap (λ l. it ∷ l) (sym (ap (λ c. cond c (e ∷ filter (is_own pid (s + 1) end) areas) (filter (is_own pid (s + 1) end) areas)) not_behind))
      ] refl found

-- every area of a process begins below 2^35
pub own_all : (areas : Map (ℕ × ℕ) Area) (pid : ℕ) → AllByRecursion IsSomePages areas → AllByRecursion EndsLow areas → filter (λ a. a.0.0 == pid) areas ≡ filter (is_own pid 0 (2 ^ 35)) areas
own_all areas pid some low =
    filter_same (λ a. a.0.0 == pid) (is_own pid 0 (2 ^ 35)) areas (λ a m.
    let has = All-among IsSomePages areas a some m in
    let ends = All-among EndsLow areas a low m in
    same_test _ _ (λ h. own_from pid 0 (2 ^ 35) a (eqb-true a.0.0 pid h) (omega arith) (omega (arith, has, ends))) (λ h. eq-eqb a.0.0 pid (own_parts pid 0 (2 ^ 35) a h).0))

-- ---- lines

module _ (segments : Map ℕ Segment) (areas : Map (ℕ × ℕ) Area) (pid : ℕ) where
  -- those that are still to come
  abbrev pub lines_from : ℕ → List Listed
  lines_from at = map (area_line segments) (filter (is_own pid at (2 ^ 35)) areas)

  pub lines_begin : AllByRecursion IsSomePages areas → AllByRecursion EndsLow areas → lines_from 0 ≡ lines_of segments areas pid
  lines_begin some low = ap (map (area_line segments)) (sym (own_all areas pid some low))

  pub lines_next : (lines new : List Listed) (at s : ℕ) (x : Area) → s < 2 ^ 35 → IsStrictlySortedBy spot_cmp (keys_of areas) → at ≤ s → get spot_cmp areas (pid, s) ≡ Some x → NoneBegins areas pid at s
      → new ≡ lines ++ area_line segments ((0, s), x) ∷ [] → lines ++ lines_from at ≡ lines_of segments areas pid → new ++ lines_from (s + 1) ≡ lines_of segments areas pid
  lines_next lines new at s x high sorted low found none pushed so_far =
      ap (λ l. l ++ lines_from (s + 1)) pushed ∙ append_assoc lines (area_line segments ((0, s), x) ∷ []) (lines_from (s + 1))
      ∙ ap (λ l. lines ++ map (area_line segments) l) (sym (own_next pid s (2 ^ 35) x high areas at sorted low found none)) ∙ so_far

  pub lines_end : (lines : List Listed) (at : ℕ) → NoneBegins areas pid at (2 ^ 35) → lines ++ lines_from at ≡ lines_of segments areas pid → lines ≡ lines_of segments areas pid
  lines_end lines at none so_far = sym (append-nil lines) ∙ ap (λ l. lines ++ map (area_line segments) l) (sym (own_none areas pid at (2 ^ 35) none)) ∙ so_far
