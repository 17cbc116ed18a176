-- How many processes there are, as mappings come and go.
use Rattle.std.proofs.Common.{◌≡◌, ℕ, zero, suc, ◌<◌, ◌≤◌, Bool, true, false, cond, ◌&&◌, ◌||◌, List, [], ◌∷◌, length, nat_eq, refl, sym, subst, ap, ◌∙◌, arith, eq-eqb, ⊎_elim}
use Rattle.std.specs.Ordering.{nat_cmp, ordering_then, match_ordering, is_eq, is_gt, is_le}
use Rattle.std.specs.declared.cmp.Ordering.{Ordering}
use Rattle.std.specs.declared.cmp.Ordering.TheVariants.{Less, Equal, Greater}
use Rattle.std.specs.Cmp.{nat_cmp_is}
use Rattle.std.specs.BTreeMap.{is_at}
use Rattle.std.specs.BTreeMap.Range.{range_contains}
use Rattle.std.specs.declared.ops.Bound.TheVariants.{Included, Unbounded}
use Rattle.std.specs.Set.{distinct_count, unique_keys, is_member}
use Rattle.std.specs.List.{AllByRecursion, list_any, filter}
use Rattle.std.specs.List.Sorted.{IsStrictlySortedBy}
use Rattle.std.proofs.lemmas.Bool.{ne_eqb, false≢true}
use Rattle.std.proofs.lemmas.Bool.Decides.{eqb_tells}
use Rattle.std.proofs.lemmas.List.{length-map}
use Rattle.std.proofs.lemmas.Map.Keys.{sorted_head, sorted_tail, le_from_not_gt}
use Rattle.std.proofs.lemmas.Map.Lookups.{exact_unsigned, exact_pairs, CmpEqualImpliesEq}
use Rattle.std.proofs.lemmas.Map.Made.{distinct_count-le}
use Rattle.nm_types.specs.Map.{spot_cmp}
use Rattle.nm_rmap.specs.Mappers.{Mapper, with_spot, without_spot, pids, has_process, process_count}

exact_spot : CmpEqualImpliesEq spot_cmp
exact_spot = exact_pairs nat_cmp nat_cmp exact_unsigned exact_unsigned

is_equal : (r : Ordering) → is_eq r ≡ true → r ≡ Equal
is_equal Less h = absurd (false≢true h)
is_equal Equal h = refl
is_equal Greater h = absurd (false≢true h)

-- how many numbers there are, each once
abbrev distinct : List ℕ → ℕ
distinct ns = distinct_count nat_eq ns

abbrev is_there : List ℕ → ℕ → Bool
is_there ns n = is_member nat_eq ns n

-- one more counts, unless it is there
one_more : (n : ℕ) (ns : List ℕ) → distinct (n ∷ ns) ≡ cond (is_there ns n) (distinct ns) (suc (distinct ns))
one_more n ns = elim (is_there ns n) as (λ b. length (cond b (unique_keys nat_eq ns) (n ∷ unique_keys nat_eq ns)) ≡ cond b (distinct ns) (suc (distinct ns))) [
  | true ↦ refl
  | false ↦ refl
]

both_more : (a b : Bool) (k : ℕ) → cond a (cond b k (suc k)) (suc (cond b k (suc k))) ≡ cond b (cond a k (suc k)) (suc (cond a k (suc k)))
both_more true true k = refl
both_more true false k = refl
both_more false true k = refl
both_more false false k = refl

two_more : (n m : ℕ) (ns : List ℕ) → nat_eq n m ≡ false
    → distinct (n ∷ m ∷ ns) ≡ cond (is_there ns n) (cond (is_there ns m) (distinct ns) (suc (distinct ns))) (suc (cond (is_there ns m) (distinct ns) (suc (distinct ns))))
two_more n m ns h =
    one_more n (m ∷ ns) ∙ ap (λ b. cond (b || is_there ns n) (distinct (m ∷ ns)) (suc (distinct (m ∷ ns)))) h
    ∙ ap (λ (k : ℕ). cond (is_there ns n) k (suc k)) (one_more m ns)

-- the order does not count
swapped : (n m : ℕ) (ns : List ℕ) → distinct (n ∷ m ∷ ns) ≡ distinct (m ∷ n ∷ ns)
swapped n m ns =
    ⊎_elim (λ is. subst (λ (k : ℕ). distinct (n ∷ k ∷ ns) ≡ distinct (k ∷ n ∷ ns)) is.1 refl)
    (λ is. two_more n m ns is.0 ∙ both_more (is_there ns n) (is_there ns m) (distinct ns) ∙ sym (two_more m n ns (ne_eqb m n (λ e. is.1 (sym e))))) (eqb_tells n m)

same_more : (n : ℕ) (ns ms : List ℕ) → is_there ns n ≡ is_there ms n → distinct ns ≡ distinct ms → distinct (n ∷ ns) ≡ distinct (n ∷ ms)
same_more n ns ms there same =
    one_more n ns ∙ ap (λ b. cond b (distinct ns) (suc (distinct ns))) there ∙ ap (λ (k : ℕ). cond (is_there ms n) k (suc k)) same ∙ sym (one_more n ms)

either_first : (a b c : Bool) → (a || (b || c)) ≡ (b || (a || c))
either_first true true c = refl
either_first true false c = refl
either_first false b c = refl

once_is_twice : (a c : Bool) → (a || c) ≡ (a || (a || c))
once_is_twice true c = refl
once_is_twice false c = refl

-- ---- a spot comes

has_with : (mappings : List Mapper) (s : Mapper) (q : ℕ) → has_process (with_spot mappings s) q ≡ (nat_eq q s.0 || has_process mappings q)
has_with [] s q = refl
has_with (x ∷ xs) s q =
    elim (spot_cmp s x) as (λ r. spot_cmp s x ≡ r → has_process (match_ordering r (s ∷ x ∷ xs) (x ∷ xs) (x ∷ with_spot xs s)) q ≡ (nat_eq q s.0 || (nat_eq q x.0 || has_process xs q))) [
      | Less ↦ λ r. refl
      | Equal ↦ λ r. once_is_twice (nat_eq q x.0) (has_process xs q) ∙ ap (λ (y : Mapper). nat_eq q y.0 || (nat_eq q x.0 || has_process xs q)) (sym (exact_spot s x r))
      | Greater ↦ λ r. ap (λ b. nat_eq q x.0 || b) (has_with xs s q) ∙ either_first (nat_eq q x.0) (nat_eq q s.0) (has_process xs q)
    ] refl

count_with : (mappings : List Mapper) (s : Mapper) → process_count (with_spot mappings s) ≡ distinct (s.0 ∷ pids mappings)
count_with [] s = refl
count_with (x ∷ xs) s =
    elim (spot_cmp s x) as (λ r. spot_cmp s x ≡ r → process_count (match_ordering r (s ∷ x ∷ xs) (x ∷ xs) (x ∷ with_spot xs s)) ≡ distinct (s.0 ∷ x.0 ∷ pids xs)) [
      | Less ↦ λ r. refl
      | Equal ↦ λ r.
          let same : nat_eq s.0 x.0 ≡ true = eq-eqb s.0 x.0 (ap (λ (y : Mapper). y.0) (exact_spot s x r)) in
          sym (one_more s.0 (x.0 ∷ pids xs) ∙ ap (λ b. cond (b || has_process xs s.0) (distinct (x.0 ∷ pids xs)) (suc (distinct (x.0 ∷ pids xs)))) same)
      | Greater ↦ λ r. same_more x.0 (pids (with_spot xs s)) (s.0 ∷ pids xs) (has_with xs s x.0) (count_with xs s) ∙ swapped x.0 s.0 (pids xs)
    ] refl

-- where it is known whether its process was there
module _ (mappings now : List Mapper) (s : Mapper) (known : Bool) (is : now ≡ with_spot mappings s) (tells : known ≡ has_process mappings s.0) where
  inserted : process_count now ≡ cond known (process_count mappings) (suc (process_count mappings))
  inserted = ap process_count is ∙ count_with mappings s ∙ one_more s.0 (pids mappings) ∙ ap (λ b. cond b (process_count mappings) (suc (process_count mappings))) (sym tells)

  pub inserted_new : known ≡ false → process_count now ≡ suc (process_count mappings)
  inserted_new not_there = inserted ∙ ap (λ b. cond b (process_count mappings) (suc (process_count mappings))) not_there

  pub inserted_known : known ≡ true → process_count now ≡ process_count mappings
  inserted_known there_is = inserted ∙ ap (λ b. cond b (process_count mappings) (suc (process_count mappings))) there_is

-- ---- a spot goes

has_without : (mappings : List Mapper) (s : Mapper) (q : ℕ) → list_any (is_at (spot_cmp s)) mappings ≡ true → has_process mappings q ≡ (nat_eq q s.0 || has_process (without_spot mappings s) q)
has_without [] s q h = absurd (false≢true h)
has_without (x ∷ xs) s q h =
    elim (is_eq (spot_cmp s x)) as (λ b. is_eq (spot_cmp s x) ≡ b → (b || list_any (is_at (spot_cmp s)) xs) ≡ true → (nat_eq q x.0 || has_process xs q) ≡ (nat_eq q s.0 || has_process (cond b xs (x ∷ without_spot xs s)) q)) [
      | true ↦ λ r h. ap (λ (y : Mapper). nat_eq q y.0 || has_process xs q) (sym (exact_spot s x (is_equal (spot_cmp s x) r)))
      | false ↦ λ r h. ap (λ b. nat_eq q x.0 || b) (has_without xs s q h) ∙ either_first (nat_eq q x.0) (nat_eq q s.0) (has_process (without_spot xs s) q)
    ] refl h

count_without : (mappings : List Mapper) (s : Mapper) → list_any (is_at (spot_cmp s)) mappings ≡ true → process_count mappings ≡ distinct (s.0 ∷ pids (without_spot mappings s))
count_without [] s h = absurd (false≢true h)
count_without (x ∷ xs) s h =
    elim (is_eq (spot_cmp s x)) as (λ b. is_eq (spot_cmp s x) ≡ b → (b || list_any (is_at (spot_cmp s)) xs) ≡ true → distinct (x.0 ∷ pids xs) ≡ distinct (s.0 ∷ pids (cond b xs (x ∷ without_spot xs s)))) [
      | true ↦ λ r h. ap (λ (y : Mapper). distinct (y.0 ∷ pids xs)) (sym (exact_spot s x (is_equal (spot_cmp s x) r)))
      | false ↦ λ r h. same_more x.0 (pids xs) (s.0 ∷ pids (without_spot xs s)) (has_without xs s x.0 h) (count_without xs s h) ∙ swapped x.0 s.0 (pids (without_spot xs s))
    ] refl h

-- where it is known whether its process is still there
module _ (mappings now : List Mapper) (s : Mapper) (known : Bool) (there : list_any (is_at (spot_cmp s)) mappings ≡ true) (is : now ≡ without_spot mappings s) (tells : known ≡ has_process now s.0) where
  removed : process_count mappings ≡ cond known (process_count now) (suc (process_count now))
  removed =
      count_without mappings s there ∙ ap (λ (ss : List Mapper). distinct (s.0 ∷ pids ss)) (sym is) ∙ one_more s.0 (pids now)
      ∙ ap (λ b. cond b (process_count now) (suc (process_count now))) (sym tells)

  pub removed_last : known ≡ false → process_count mappings ≡ suc (process_count now)
  removed_last not_there = removed ∙ ap (λ b. cond b (process_count now) (suc (process_count now))) not_there

  pub removed_known : known ≡ true → process_count mappings ≡ process_count now
  removed_known there_is = removed ∙ ap (λ b. cond b (process_count now) (suc (process_count now))) there_is

-- ---- the first spot from a process on

abbrev from_process : ℕ → Mapper → Bool
from_process pid spot = is_le (spot_cmp (pid, 0) spot) && true

-- whether the first of the mappings is of the process
abbrev pub starts_with : List Mapper → ℕ → Bool
starts_with [] pid = false
starts_with (spot ∷ mappings) pid = nat_eq spot.0 pid

first_decides : (r s : Ordering) → ordering_then r s ≡ Less → is_gt r ≡ false
first_decides Less s h = refl
first_decides Equal s h = refl
first_decides Greater s h = ap is_gt h

not_behind : (r s : Ordering) → (is_le (ordering_then r s) && true) ≡ true → is_gt r ≡ false
not_behind Less s h = refl
not_behind Equal s h = refl
not_behind Greater s h = sym h

-- no later spot is of an earlier process
later : (spot : Mapper) (rest : List Mapper) → AllByRecursion (λ y. spot_cmp spot y ≡ Less) rest → AllByRecursion (λ y. spot.0 ≤ y.0) rest
later spot [] h = tt
later spot (y ∷ rest) h = (le_from_not_gt spot.0 y.0 (first_decides (nat_cmp spot.0 y.0) (nat_cmp spot.1 y.1) h.0), later spot rest h.1)

-- a process below those of all mappings is not among them
not_among : (pid q : ℕ) (rest : List Mapper) → pid < q → AllByRecursion (λ y. q ≤ y.0) rest → has_process rest pid ≡ false
not_among pid q [] lt h = refl
not_among pid q (y ∷ rest) lt h =
    let below : pid < y.0 = omega (arith, h.0) in
    ap (λ b. b || has_process rest pid) (ne_eqb pid y.0 (λ e. omega (arith, e, below))) ∙ not_among pid q rest lt h.1

-- a spot of the process is not before its first
at_least_zero : (n : ℕ) → (is_le (nat_cmp 0 n) && true) ≡ true
at_least_zero zero = refl
at_least_zero (suc n) = ap (λ r. is_le r && true) (sym (nat_cmp_is 0 (suc n) Less (omega arith)))

own_spot : (pid : ℕ) (x : Mapper) → pid ≡ x.0 → from_process pid x ≡ true
own_spot pid x e = ap (λ r. is_le (ordering_then r (nat_cmp 0 x.1)) && true) (sym (nat_cmp_is pid x.0 Equal e)) ∙ at_least_zero x.1

first_is : (pid : ℕ) (x : Mapper) (xs : List Mapper) → pid ≤ x.0 → AllByRecursion (λ y. x.0 ≤ y.0) xs → (nat_eq pid x.0 || has_process xs pid) ≡ nat_eq x.0 pid
first_is pid x xs low after =
    ⊎_elim (λ is. ap (λ b. b || has_process xs pid) is.0 ∙ sym (eq-eqb x.0 pid (sym is.1)))
    (λ is.
    let apart = is.1 in
    let below : pid < x.0 = omega (arith, low, apart) in
    ap (λ b. b || has_process xs pid) is.0 ∙ not_among pid x.0 xs below after ∙ sym (ne_eqb x.0 pid (λ e. omega (arith, e, below)))) (eqb_tells pid x.0)

first_tells : (pid : ℕ) (mappings : List Mapper) → IsStrictlySortedBy spot_cmp mappings → has_process mappings pid ≡ starts_with (filter (from_process pid) mappings) pid
first_tells pid [] sorted = refl
first_tells pid (x ∷ xs) sorted =
    elim (from_process pid x) as (λ b. from_process pid x ≡ b → (nat_eq pid x.0 || has_process xs pid) ≡ starts_with (cond b (x ∷ filter (from_process pid) xs) (filter (from_process pid) xs)) pid) [
      | true ↦ λ r. first_is pid x xs (le_from_not_gt pid x.0 (not_behind (nat_cmp pid x.0) (nat_cmp 0 x.1) r)) (later x xs (sorted_head spot_cmp x xs sorted))
      | false ↦ λ r. ap (λ b. b || has_process xs pid) (ne_eqb pid x.0 (λ e. false≢true (sym r ∙ own_spot pid x e))) ∙ first_tells pid xs (sorted_tail spot_cmp x xs sorted)
    ] refl

-- by what a range gives
pub range_tells : (pid start : ℕ) (mappings found : List Mapper) → found ≡ filter (range_contains spot_cmp (Included (pid, start)) Unbounded) mappings → start ≡ 0 → IsStrictlySortedBy spot_cmp mappings
    → has_process mappings pid ≡ starts_with found pid
range_tells pid start mappings found is at sorted =
    first_tells pid mappings sorted ∙ ap (λ (ss : List Mapper). starts_with ss pid) (sym (is ∙ ap (λ (n : ℕ). filter (range_contains spot_cmp (Included (pid, n)) Unbounded) mappings) at))

-- there are no more processes than mappings
pub few_processes : (mappings : List Mapper) → process_count mappings ≤ length mappings
few_processes mappings = omega (arith, distinct_count-le nat_eq (pids mappings), length-map mappings (λ (spot : Mapper). spot.0))
