-- What follows from the first keys of a segment.
use Rattle.std.proofs.Common.{◌≡◌, ℕ, zero, suc, ◌≤◌, ◌<◌, List, [], ◌∷◌, Bool, true, false, ◌&&◌, ◌||◌, cond, refl, sym, ap, subst, ◌∙◌, arith, inl, inr, eq-eqb}
use Rattle.std.specs.Prelude.{Option, Some, None, ◌==◌}
use Rattle.std.specs.BTreeMap.Range.{range_contains}
use Rattle.std.specs.declared.ops.Bound.TheVariants.{Included, Unbounded}
use Rattle.std.specs.List.{AllByRecursion, list_any, filter}
use Rattle.std.specs.List.Sorted.{IsStrictlySortedBy}
use Rattle.std.specs.Map.{keys_of}
use Rattle.std.specs.Ordering.{nat_cmp, ordering_then, is_eq, is_gt, is_le}
use Rattle.std.specs.Cmp.{nat_cmp_is}
use Rattle.std.specs.declared.cmp.Ordering.{Ordering}
use Rattle.std.specs.declared.cmp.Ordering.TheVariants.{Less, Equal, Greater}
use Rattle.std.proofs.lemmas.Bool.{eqb-true, and_parts, and_from, or_left, or_right, false_from_ne_true}
use Rattle.std.proofs.lemmas.Map.Keys.{sorted_head, sorted_tail, le_from_not_gt}
use Rattle.nm_types.specs.declared.area.Area.{Area}
use Rattle.nm_types.specs.Map.{Map, get, spot_cmp}
use Rattle.nm_types.specs.State.{PlacedArea}
use Rattle.nm_types.proofs.Cases.{true_false}
use Rattle.nm_areas.specs.Index.{Key, key_cmp, is_of, IsIndex}
use Rattle.nm_model.specs.definitions.Areas.{shows_segment}
use Rattle.nm_types.proofs.Maps.{spot_cmp_total, found_first, found_later}
use Rattle.nm_model.proofs.areas.Parted.{Among, any_among, among_any}
use Rattle.nm_model.proofs.areas.Painted.{exact_spot}
use Rattle.nm_model.proofs.areas.Overs.{get_among}
use Rattle.nm_areas.proofs.Indexed.{has, same_key, key_itself}

-- whether there is an area, and it passes a test at its place
abbrev is_passed : (PlacedArea → Bool) → ℕ × ℕ → Option Area → Bool
is_passed test spot None = false
is_passed test spot (Some area) = test (spot, area)

-- whether an area at that place passes a test
abbrev passes : (PlacedArea → Bool) → Map (ℕ × ℕ) Area → ℕ × ℕ → Bool
passes test areas spot = is_passed test spot (get spot_cmp areas spot)

-- whether an area of the first keys passes a test, as long as they are of one segment
abbrev pub scan : ℕ → (PlacedArea → Bool) → Map (ℕ × ℕ) Area → List Key → Bool
scan number test areas [] = false
scan number test areas (k ∷ keys) = (k.0 == number) && (passes test areas (k.1, k.2) || scan number test areas keys)

both_ways : (a b : Bool) → (a ≡ true → b ≡ true) → (b ≡ true → a ≡ true) → a ≡ b
both_ways true b h k = sym (h refl)
both_ways false true h k = k refl
both_ways false false h k = refl

-- in order each area is found at its place
get_here : (areas : Map (ℕ × ℕ) Area) (a : PlacedArea) → IsStrictlySortedBy spot_cmp (keys_of areas) → Among a areas → get spot_cmp areas a.0 ≡ Some a.1
get_here [] a s m = absurd m
get_here (x ∷ areas) a s (inl e) = subst (λ (z : PlacedArea). get spot_cmp (x ∷ areas) z.0 ≡ Some z.1) (sym e) (found_first spot_cmp_total exact_spot x areas)
get_here (x ∷ areas) a s (inr m) = found_later spot_cmp_total exact_spot x areas s a.0 a.1 (get_here areas a (sorted_tail spot_cmp x.0 (keys_of areas) s) m)

-- ---- keys that pass, and areas that do

key_any : (keys : List Key) (k : Key) (test : Key → Bool) → has keys k ≡ true → test k ≡ true → list_any test keys ≡ true
key_any [] k test h t = absurd (true_false (sym h))
key_any (x ∷ keys) k test h t =
    elim (is_eq (key_cmp k x)) as (λ b. is_eq (key_cmp k x) ≡ b → (b || has keys k) ≡ true → list_any test (x ∷ keys) ≡ true) [
      | true ↦ λ b j. or_left _ _ (ap test (sym (same_key k x b)) ∙ t)
      | false ↦ λ b j. or_right _ _ (key_any keys k test j t)
    ] refl h

any_key : (keys : List Key) (test : Key → Bool) → list_any test keys ≡ true → (k : Key) × (has keys k ≡ true) × (test k ≡ true)
any_key [] test h = absurd (true_false (sym h))
any_key (x ∷ keys) test h =
    elim (test x) as (λ b. test x ≡ b → (b || list_any test keys) ≡ true → (k : Key) × (has (x ∷ keys) k ≡ true) × (test k ≡ true)) [
      | true ↦ λ b j. (x, or_left _ _ (key_itself x x refl), b)
      | false ↦ λ b j. let more = any_key keys test j in (more.0, or_right _ _ more.1, more.2)
    ] refl h

-- whether a key is of a segment and its area passes a test
abbrev pub hits : ℕ → (PlacedArea → Bool) → Map (ℕ × ℕ) Area → Key → Bool
hits number test areas k = (k.0 == number) && passes test areas (k.1, k.2)

passed : (test : PlacedArea → Bool) (spot : ℕ × ℕ) (o : Option Area) → is_passed test spot o ≡ true → (x : Area) × (o ≡ Some x) × (test (spot, x) ≡ true)
passed test spot None h = absurd (true_false (sym h))
passed test spot (Some x) h = (x, refl, h)

module _ (keys : List Key) (areas : Map (ℕ × ℕ) Area) (index : IsIndex keys areas) (sorted : IsStrictlySortedBy spot_cmp (keys_of areas)) (number : ℕ) (test : PlacedArea → Bool) (own : (a : PlacedArea) → test a ≡ true → a.1.page.segment ≡ number) where
  pub hits_tell : list_any (hits number test areas) keys ≡ list_any test areas
  hits_tell = both_ways _ _ (λ h.
      let found = any_key keys (hits number test areas) h in
      let k = found.0 in
      let at = passed test (k.1, k.2) (get spot_cmp areas (k.1, k.2)) (and_parts _ _ found.2).1 in
      among_any test areas ((k.1, k.2), at.0) (get_among areas (k.1, k.2) at.0 at.1) at.2)
      (λ h.
      let found = any_among test areas h in
      let a = found.0 in
      let here = get_here areas a sorted found.1 in
      let k : Key = (number, a.0.0, a.0.1) in
      key_any keys k (hits number test areas) (index k ∙ ap (is_of number) here ∙ eq-eqb a.1.page.segment number (own a found.2))
      (and_from _ _ (eq-eqb number number refl) (ap (is_passed test a.0) here ∙ found.2)))

-- ---- from the first key that a segment may have

abbrev from : ℕ → Key → Bool
from number k = range_contains key_cmp (Included (number, 0, 0)) Unbounded k

at_least_zero : (n : ℕ) → is_le (nat_cmp 0 n) ≡ true
at_least_zero zero = refl
at_least_zero (suc n) = ap is_le (sym (nat_cmp_is 0 (suc n) Less (omega arith)))

least : (p v : ℕ) → (is_le (ordering_then (nat_cmp 0 p) (nat_cmp 0 v)) && true) ≡ true
least zero v = ap (λ b. b && true) (at_least_zero v)
least (suc p) v = ap (λ r. is_le (ordering_then r (nat_cmp 0 v)) && true) (sym (nat_cmp_is 0 (suc p) Less (omega arith)))

own_from : (number : ℕ) (k : Key) → number ≡ k.0 → from number k ≡ true
own_from number k e = ap (λ r. is_le (ordering_then (ordering_then r (nat_cmp 0 k.1)) (nat_cmp 0 k.2)) && true) (sym (nat_cmp_is number k.0 Equal e)) ∙ least k.1 k.2

not_behind : (r s t : Ordering) → (is_le (ordering_then (ordering_then r s) t) && true) ≡ true → is_gt r ≡ false
not_behind Less s t h = refl
not_behind Equal s t h = refl
not_behind Greater s t h = sym h

first_decides : (r s t : Ordering) → ordering_then (ordering_then r s) t ≡ Less → is_gt r ≡ false
first_decides Less s t h = refl
first_decides Equal s t h = refl
first_decides Greater s t h = ap is_gt h

-- no later key is of an earlier segment
later : (k : Key) (rest : List Key) → AllByRecursion (λ y. key_cmp k y ≡ Less) rest → AllByRecursion (λ y. k.0 ≤ y.0) rest
later k [] h = tt
later k (y ∷ rest) h = (le_from_not_gt k.0 y.0 (first_decides (nat_cmp k.0 y.0) (nat_cmp k.1 y.1) (nat_cmp k.2 y.2) h.0), later k rest h.1)

module _ (number : ℕ) (test : PlacedArea → Bool) (areas : Map (ℕ × ℕ) Area) where
  no_hits : (n : ℕ) (rest : List Key) → number < n → AllByRecursion (λ y. n ≤ y.0) rest → list_any (hits number test areas) rest ≡ false
  no_hits n [] low h = refl
  no_hits n (y ∷ rest) low h =
      ap (λ b. (b && passes test areas (y.1, y.2)) || list_any (hits number test areas) rest) (false_from_ne_true (y.0 == number) (λ e. let same = eqb-true y.0 number e in omega (arith, h.0, same, low)))
      ∙ no_hits n rest low h.1

  scan_from : (keys : List Key) → IsStrictlySortedBy key_cmp keys → scan number test areas (filter (from number) keys) ≡ list_any (hits number test areas) keys
  scan_from [] sorted = refl
  scan_from (k ∷ keys) sorted =
      let more = scan_from keys (sorted_tail key_cmp k keys sorted) in
      elim (from number k) as (λ b. from number k ≡ b → scan number test areas (cond b (k ∷ filter (from number) keys) (filter (from number) keys)) ≡ (hits number test areas k || list_any (hits number test areas) keys)) [
        | true ↦ λ b. elim (k.0 == number) as (λ c. (k.0 == number) ≡ c → (c && (passes test areas (k.1, k.2) || scan number test areas (filter (from number) keys))) ≡ ((c && passes test areas (k.1, k.2)) || list_any (hits number test areas) keys)) [
          | true ↦ λ c. ap (λ d. passes test areas (k.1, k.2) || d) more
          | false ↦ λ c.
              let low = le_from_not_gt number k.0 (not_behind (nat_cmp number k.0) (nat_cmp 0 k.1) (nat_cmp 0 k.2) b) in
              let other : (k.0 ≡ number → ⊥) = λ e. true_false (sym (eq-eqb k.0 number e) ∙ c) in
              sym (no_hits k.0 keys (omega (arith, low, other)) (later k keys (sorted_head key_cmp k keys sorted)))
        ] refl
        | false ↦ λ b. more ∙ sym (ap (λ c. (c && passes test areas (k.1, k.2)) || list_any (hits number test areas) keys) (false_from_ne_true (k.0 == number) (λ e. true_false (sym (own_from number k (sym (eqb-true k.0 number e))) ∙ b))))
      ] refl

  -- by what a range gives
  pub scan_tells : (pid v : ℕ) (keys found : List Key) → IsIndex keys areas → IsStrictlySortedBy spot_cmp (keys_of areas) → ((a : PlacedArea) → test a ≡ true → a.1.page.segment ≡ number) → IsStrictlySortedBy key_cmp keys → pid ≡ 0 → v ≡ 0
      → found ≡ filter (range_contains key_cmp (Included (number, pid, v)) Unbounded) keys → scan number test areas found ≡ list_any test areas
  scan_tells pid v keys found index ordered own sorted is_pid is_v is =
      ap (scan number test areas) (is ∙ ap (λ (p : ℕ). filter (range_contains key_cmp (Included (number, p, v)) Unbounded) keys) is_pid ∙ ap (λ (w : ℕ). filter (range_contains key_cmp (Included (number, 0, w)) Unbounded) keys) is_v)
      ∙ scan_from keys sorted ∙ hits_tell keys areas index ordered number test own

-- ---- whether a segment is shown

passes_of : (n : ℕ) (spot : ℕ × ℕ) (o : Option Area) → is_passed (shows_segment n) spot o ≡ is_of n o
passes_of n spot None = refl
passes_of n spot (Some x) = refl

module _ (n pid v : ℕ) (keys found : List Key) (areas : Map (ℕ × ℕ) Area) (index : IsIndex keys areas) (ordered : IsStrictlySortedBy spot_cmp (keys_of areas)) (sorted : IsStrictlySortedBy key_cmp keys) (is_pid : pid ≡ 0) (is_v : v ≡ 0)
    (is : found ≡ filter (range_contains key_cmp (Included (n, pid, v)) Unbounded) keys) where
  shown_tells : scan n (shows_segment n) areas found ≡ list_any (shows_segment n) areas
  shown_tells = scan_tells n (shows_segment n) areas pid v keys found index ordered (λ a h. eqb-true a.1.page.segment n h) sorted is_pid is_v is

  pub shown_first : (k : Key) (rest : List Key) → found ≡ k ∷ rest → has keys k ≡ true → (k.0 == n) ≡ list_any (shows_segment n) areas
  shown_first k rest first there =
      let spot : ℕ × ℕ = (k.1, k.2) in
      elim (k.0 == n) as (λ b. (k.0 == n) ≡ b → b ≡ (b && (passes (shows_segment n) areas spot || scan n (shows_segment n) areas rest))) [
        | false ↦ λ b. refl
        | true ↦ λ b.
            let whose : is_of n (get spot_cmp areas spot) ≡ true = ap (λ (m : ℕ). is_of m (get spot_cmp areas spot)) (sym (eqb-true k.0 n b)) ∙ sym (index k) ∙ there in
            sym (ap (λ c. c || scan n (shows_segment n) areas rest) (passes_of n spot (get spot_cmp areas spot) ∙ whose))
      ] refl ∙ ap (scan n (shows_segment n) areas) (sym first) ∙ shown_tells

  pub shown_none : found ≡ [] → false ≡ list_any (shows_segment n) areas
  shown_none none = ap (scan n (shows_segment n) areas) (sym none) ∙ shown_tells
