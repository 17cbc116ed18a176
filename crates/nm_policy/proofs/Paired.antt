-- Pairs of nodes, and the order in which they come.
use Rattle.std.proofs.Common.{arith, ◌≡◌, ◌≢◌, ℕ, zero, suc, ◌+◌, ◌-◌, ◌%◌, ◌<◌, ◌≤◌, ◌⊎◌, ⊎_elim, inl, inr, Bool, true, false, not, cond, List, [], ◌∷◌, map, length, Some, None, Option, refl, sym, subst, ap, ◌∙◌}
use Rattle.std.specs.Prelude.{◌==◌, ◌&&◌, nat_eq, find, slice_get, if◌then◌else◌, IsPermutation}
use Rattle.std.specs.List.{AllByRecursion, IsDistinct, filter, last_or}
use Rattle.std.specs.List.Sorted.{IsStrictlyIncreasing, IsStrictlySortedBy}
use Rattle.std.specs.Option.{option_or}
use Rattle.std.specs.Ordering.{nat_cmp}
use Rattle.std.specs.declared.cmp.Ordering.TheVariants.{Less}
use Rattle.std.proofs.lemmas.Bool.{eq-eqb, ne_eqb, false≢true, or_left}
use Rattle.std.proofs.lemmas.List.Sorted.{IsPermutation-refl, IsPermutation-cons, IsPermutation-trans, IsPermutation-middle}
use Rattle.std.proofs.lemmas.Map.Keys.{sorted_from_strictly_increasing, sorted_head, sorted_tail}
use Rattle.nm_types.specs.Nodes.{is_in, without_node}
use Rattle.nm_policy.specs.declared.pairing.Pair.{Pair}
use Rattle.nm_policy.specs.definitions.Pairs.{pairs_from_turn, stays, pairs_that_move, next_pair, without_source, pairs_after, pairs}
use Rattle.nm_policy.specs.laws.Pairs.{EmptiesFromTheEnd, EachSetIsPairedInOrder}
use Rattle.nm_policy.proofs.Sorted.{lower}
use Rattle.nm_policy.proofs.Turned.{is_in_at}

-- a pair is one of these
abbrev IsOneOf : Pair → List Pair → Type 0
IsOneOf p [] = ⊥
IsOneOf p (q ∷ qs) = (q ≡ p) ⊎ IsOneOf p qs

-- no node is left twice
abbrev pub AreFresh : List Pair → Type 0
AreFresh [] = Unit {0}
AreFresh (p ∷ ps) = AllByRecursion (λ q. p.from ≢ q.from) ps × AreFresh ps

one_of_all : (P : Pair → Type 0) (p : Pair) (ps : List Pair) → IsOneOf p ps → AllByRecursion P ps → P p
one_of_all P p [] i h = absurd i
one_of_all P p (q ∷ ps) i h = ⊎_elim (λ e. subst P e h.0) (λ j. one_of_all P p ps j h.1) i

all_map : (P Q : Pair → Type 0) (ps : List Pair) → ((p : Pair) → P p → Q p) → AllByRecursion P ps → AllByRecursion Q ps
all_map P Q [] f h = tt
all_map P Q (p ∷ ps) f h = (f p h.0, all_map P Q ps f h.1)

all_filtered : (P : Pair → Type 0) (f : Pair → Bool) (ps : List Pair) → AllByRecursion P ps → AllByRecursion P (filter f ps)
all_filtered P f [] h = tt
all_filtered P f (p ∷ ps) h =
    let rest = all_filtered P f ps h.1 in
    elim (f p) as (λ b. AllByRecursion P (cond b (p ∷ filter f ps) (filter f ps))) [ true ↦ (h.0, rest) | false ↦ rest ]

-- each that is left passes the test
passes : (f : Pair → Bool) (ps : List Pair) → AllByRecursion (λ p. f p ≡ true) (filter f ps)
passes f [] = tt
passes f (p ∷ ps) =
    let rest = passes f ps in
    elim (f p) as (λ b. f p ≡ b → AllByRecursion (λ p. f p ≡ true) (cond b (p ∷ filter f ps) (filter f ps))) [
      | true ↦ λ e. (e, rest)
      | false ↦ λ e. rest
    ] refl

fresh_filtered : (f : Pair → Bool) (ps : List Pair) → AreFresh ps → AreFresh (filter f ps)
fresh_filtered f [] h = tt
fresh_filtered f (p ∷ ps) h =
    let rest = fresh_filtered f ps h.1 in
    elim (f p) as (λ b. AreFresh (cond b (p ∷ filter f ps) (filter f ps))) [
      | true ↦ (all_filtered (λ q. p.from ≢ q.from) f ps h.0, rest)
      | false ↦ rest
    ]

-- those that leave other nodes stay as they are
others_stay : (n : ℕ) (ps : List Pair) → AllByRecursion (λ q. n ≢ q.from) ps → without_source ps n ≡ ps
others_stay n [] h = refl
others_stay n (p ∷ ps) h =
    ap (λ b. cond (not b) (p ∷ without_source ps n) (without_source ps n)) (ne_eqb p.from n (λ e. h.0 (sym e))) ∙ ap (λ l. p ∷ l) (others_stay n ps h.1)

-- one pair is taken out, with no other
taken : (p : Pair) (ps : List Pair) → IsOneOf p ps → AreFresh ps → IsPermutation ps (p ∷ without_source ps p.from)
taken p [] i h = absurd i
taken p (q ∷ ps) i h =
    ⊎_elim
    (λ e.
    let same : q.from ≡ p.from = ap (λ (r : Pair). r.from) e in
    let left : without_source (q ∷ ps) p.from ≡ ps =
    ap (λ b. cond (not b) (q ∷ without_source ps p.from) (without_source ps p.from)) (eq-eqb q.from p.from same)
    ∙ others_stay p.from ps (subst (λ (n : ℕ). AllByRecursion (λ r. n ≢ r.from) ps) same h.0) in
    subst (λ (l : List Pair). IsPermutation (q ∷ ps) (p ∷ l)) (sym left) (subst (λ (r : Pair). IsPermutation (q ∷ ps) (r ∷ ps)) e (IsPermutation-refl (q ∷ ps))))
    (λ j.
    let other : q.from ≢ p.from = one_of_all (λ r. q.from ≢ r.from) p ps j h.0 in
    let left : without_source (q ∷ ps) p.from ≡ q ∷ without_source ps p.from =
    ap (λ b. cond (not b) (q ∷ without_source ps p.from) (without_source ps p.from)) (ne_eqb q.from p.from other) in
    subst (λ (l : List Pair). IsPermutation (q ∷ ps) (p ∷ l)) (sym left)
    (IsPermutation-trans (q ∷ ps) (q ∷ p ∷ without_source ps p.from) (p ∷ q ∷ without_source ps p.from) (IsPermutation-cons q ps (p ∷ without_source ps p.from) (taken p ps j h.1))
    (IsPermutation-middle (q ∷ []) p (without_source ps p.from)))) i

-- fewer pairs are left
shorter : (p : Pair) (ps : List Pair) → IsOneOf p ps → length (without_source ps p.from) < length ps
shorter p [] i = absurd i
shorter p (q ∷ ps) i =
    let few : length (without_source ps p.from) ≤ length ps = no_longer p.from ps in
    ⊎_elim
    (λ e.
    let gone : length (without_source (q ∷ ps) p.from) ≡ length (without_source ps p.from) =
    ap (λ b. length (cond (not b) (q ∷ without_source ps p.from) (without_source ps p.from))) (eq-eqb q.from p.from (ap (λ (r : Pair). r.from) e)) in
    omega (arith, few, gone))
    (λ j.
    let less = shorter p ps j in
    elim (q.from == p.from) as (λ b. length (cond (not b) (q ∷ without_source ps p.from) (without_source ps p.from)) < suc (length ps)) [
      | true ↦ omega (arith, few)
      | false ↦ omega (arith, less)
    ]) i
  where
    no_longer : (n : ℕ) (ps : List Pair) → length (without_source ps n) ≤ length ps
    no_longer n [] = omega arith
    no_longer n (q ∷ ps) =
        let rest = no_longer n ps in
        elim (q.from == n) as (λ b. length (cond (not b) (q ∷ without_source ps n) (without_source ps n)) ≤ suc (length ps)) [
          | true ↦ omega (arith, rest)
          | false ↦ omega (arith, rest)
        ]

last_one : (o : Option Pair) (p : Pair) (ps : List Pair) → last_or o ps ≡ Some p → (o ≡ Some p) ⊎ IsOneOf p ps
last_one o p [] e = inl e
last_one o p (q ∷ ps) e = inr (⊎_elim (λ h. let is : q ≡ p = cc in inl is) (λ i. inr i) (last_one (Some q) p ps e))

last_of_none : (p : Pair) (ps : List Pair) → last_or None ps ≡ Some p → IsOneOf p ps
last_of_none p ps e = ⊎_elim (λ h. let z : ⊥ = cc in absurd z) (λ i. i) (last_one None p ps e)

found_one : (f : Pair → Bool) (p : Pair) (ps : List Pair) → find f ps ≡ Some p → IsOneOf p ps × (f p ≡ true)
found_one f p [] e = let z : ⊥ = cc in absurd z
found_one f p (q ∷ ps) e =
    elim (f q) as (λ b. f q ≡ b → cond b (Some q) (find f ps) ≡ Some p → IsOneOf p (q ∷ ps) × (f p ≡ true)) [
      | true ↦ λ h e. let is : q ≡ p = cc in (inl is, subst (λ (r : Pair). f r ≡ true) is h)
      | false ↦ λ h e. let rest = found_one f p ps e in (inr rest.0, rest.1)
    ] refl e

found_none : (f : Pair → Bool) (ps : List Pair) → find f ps ≡ None → AllByRecursion (λ p. f p ≡ false) ps
found_none f [] e = tt
found_none f (q ∷ ps) e =
    elim (f q) as (λ b. f q ≡ b → cond b (Some q) (find f ps) ≡ None → AllByRecursion (λ p. f p ≡ false) (q ∷ ps)) [
      | true ↦ λ h e. let z : ⊥ = cc in absurd z
      | false ↦ λ h e. (h, found_none f ps e)
    ] refl e

last_none : (o : Option Pair) (ps : List Pair) → last_or o ps ≡ None → ps ≡ []
last_none o [] e = refl
last_none o (q ∷ ps) e = absurd (never q ps e)
  where
    never : (q : Pair) (ps : List Pair) → last_or (Some q) ps ≡ None → ⊥
    never q [] e = cc
    never q (r ∷ ps) e = never r ps e

last_at : (p : Pair) (ps : List Pair) → slice_get (p ∷ ps) (length ps) ≡ last_or (Some p) ps
last_at p [] = refl
last_at p (q ∷ ps) = last_at q ps

pub last_is : (ps : List Pair) → slice_get ps (length ps - 1) ≡ last_or None ps
last_is [] = refl
last_is (p ∷ ps) = let e : suc (length ps) - 1 ≡ length ps = omega arith in ap (slice_get (p ∷ ps)) e ∙ last_at p ps

-- whether the target of a pair is not still to be left
abbrev is_free : List ℕ → Pair → Bool
is_free remaining p = not (is_in remaining p.to)

-- the next pair is one of those that are left
pub next_one : (remaining : List ℕ) (p : Pair) (ps : List Pair) → next_pair remaining ps ≡ Some p → IsOneOf p ps
next_one remaining p ps e =
    elim (find (is_free remaining) ps) as (λ o. find (is_free remaining) ps ≡ o → option_or o (last_or None ps) ≡ Some p → IsOneOf p ps) [
      | None ↦ λ h e. last_of_none p ps e
      | Some q ↦ λ h e. (found_one (is_free remaining) p ps (h ∙ e)).0
    ] refl e

-- there is no next one only where none is left
pub next_none : (remaining : List ℕ) (ps : List Pair) → next_pair remaining ps ≡ None → ps ≡ []
next_none remaining ps e =
    elim (find (is_free remaining) ps) as (λ o. option_or o (last_or None ps) ≡ None → ps ≡ []) [
      | None ↦ λ e. last_none None ps e
      | Some q ↦ λ e. let z : ⊥ = cc in absurd z
    ] e

-- where the next one waits, so do all
next_waits : (remaining : List ℕ) (p : Pair) (ps : List Pair) → next_pair remaining ps ≡ Some p → is_in remaining p.to ≡ true → AllByRecursion (λ q. is_in remaining q.to ≡ true) ps
next_waits remaining p ps e waits =
    elim (find (is_free remaining) ps) as (λ o. find (is_free remaining) ps ≡ o → option_or o (last_or None ps) ≡ Some p → AllByRecursion (λ q. is_in remaining q.to ≡ true) ps) [
      | None ↦ λ h e.
          all_map (λ q. is_free remaining q ≡ false) (λ q. is_in remaining q.to ≡ true) ps (λ q. bound (is_in remaining q.to)) (found_none (is_free remaining) ps h)
      | Some q ↦ λ h e.
          let free : is_free remaining p ≡ true = (found_one (is_free remaining) p ps (h ∙ e)).1 in
          let z : false ≡ true = ap not (sym waits) ∙ free in
          absurd (false≢true z)
    ] refl e
  where
    bound : (b : Bool) → not b ≡ false → b ≡ true
    bound true e = refl
    bound false e = sym e

-- what the pairs are, by the next one
abbrev by_next : ℕ → List ℕ → List Pair → Option Pair → List Pair
by_next n remaining left o =
    elim o [ None ↦ [] | Some pair ↦ pair ∷ pairs_after n (without_node remaining pair.from) (without_source left pair.from) ]

pub pairs_none : (n : ℕ) (remaining : List ℕ) (left : List Pair) → next_pair remaining left ≡ None → pairs_after n remaining left ≡ []
pairs_none zero remaining left e = refl
pairs_none (suc n) remaining left e = ap (by_next n remaining left) e

pub pairs_some : (n : ℕ) (remaining : List ℕ) (left : List Pair) (p : Pair) → next_pair remaining left ≡ Some p → pairs_after (suc n) remaining left ≡ p ∷ pairs_after n (without_node remaining p.from) (without_source left p.from)
pairs_some n remaining left p e = ap (by_next n remaining left) e

pub fewer_left : (remaining : List ℕ) (left : List Pair) (p : Pair) → next_pair remaining left ≡ Some p → length (without_source left p.from) < length left
fewer_left remaining left p e = shorter p left (next_one remaining p left e)

module _ (P : Pair → Type 0) where
  all_after : (n : ℕ) (remaining : List ℕ) (left : List Pair) → AllByRecursion P left → AllByRecursion P (pairs_after n remaining left)
  all_after zero remaining left h = tt
  all_after (suc n) remaining left h =
      elim (next_pair remaining left) as (λ o. next_pair remaining left ≡ o → AllByRecursion P (by_next n remaining left o)) [
        | None ↦ λ e. tt
        | Some p ↦ λ e. (
          one_of_all P p left (next_one remaining p left e) h,
          all_after n (without_node remaining p.from) (without_source left p.from) (all_filtered P (λ q. not (q.from == p.from)) left h),
        )
      ] refl

others_left : (n : ℕ) (ps : List Pair) → AllByRecursion (λ q. n ≢ q.from) (without_source ps n)
others_left n ps =
    all_map (λ q. not (q.from == n) ≡ true) (λ q. n ≢ q.from) (without_source ps n) (λ q h same. let z : not true ≡ true = ap not (sym (eq-eqb q.from n (sym same))) ∙ h in absurd (false≢true z))
    (passes (λ q. not (q.from == n)) ps)

fresh_after : (n : ℕ) (remaining : List ℕ) (left : List Pair) → AreFresh (pairs_after n remaining left)
fresh_after zero remaining left = tt
fresh_after (suc n) remaining left =
    elim (next_pair remaining left) as (λ o. AreFresh (by_next n remaining left o)) [
      | None ↦ tt
      | Some p ↦ (
        all_after (λ q. p.from ≢ q.from) n (without_node remaining p.from) (without_source left p.from) (others_left p.from left),
        fresh_after n (without_node remaining p.from) (without_source left p.from),
      )
    ]

all_come : (n : ℕ) (remaining : List ℕ) (left : List Pair) → length left ≤ n → AreFresh left → IsPermutation left (pairs_after n remaining left)
all_come zero remaining [] few fresh = IsPermutation-refl []
all_come zero remaining (p ∷ left) few fresh = let z : ⊥ = omega (arith, few) in absurd z
all_come (suc n) remaining left few fresh =
    elim (next_pair remaining left) as (λ o. next_pair remaining left ≡ o → IsPermutation left (by_next n remaining left o)) [
      | None ↦ λ e. subst (λ (l : List Pair). IsPermutation l []) (sym (next_none remaining left e)) (IsPermutation-refl [])
      | Some p ↦ λ e.
          let rest = without_source left p.from in
          let less = fewer_left remaining left p e in
          let behind = all_come n (without_node remaining p.from) rest (omega (arith, few, less)) (fresh_filtered (λ q. not (q.from == p.from)) left fresh) in
          IsPermutation-trans left (p ∷ rest) (p ∷ pairs_after n (without_node remaining p.from) rest) (taken p left (next_one remaining p left e) fresh)
          (IsPermutation-cons p rest (pairs_after n (without_node remaining p.from) rest) behind)
    ] refl

from_the_end : (n : ℕ) (remaining : List ℕ) (left : List Pair) → EmptiesFromTheEnd remaining (pairs_after n remaining left)
from_the_end zero remaining left = tt
from_the_end (suc n) remaining left =
    elim (next_pair remaining left) as (λ o. next_pair remaining left ≡ o → EmptiesFromTheEnd remaining (by_next n remaining left o)) [
      | None ↦ λ e. tt
      | Some p ↦ λ e.
          let Waits : Pair → Type 0 = λ q. is_in remaining q.to ≡ true in (
            λ waits.
                all_after Waits n (without_node remaining p.from) (without_source left p.from) (all_filtered Waits (λ q. not (q.from == p.from)) left (next_waits remaining p left e waits)),
            from_the_end n (without_node remaining p.from) (without_source left p.from),
          )
    ] refl

distinct : (ps : List Pair) → AreFresh ps → IsDistinct nat_eq (map (λ p. p.from) ps)
unfolding IsDistinct
distinct [] h = tt
distinct (p ∷ ps) h = (others p ps h.0, distinct ps h.1)
  where
    others : (p : Pair) (ps : List Pair) → AllByRecursion (λ q. p.from ≢ q.from) ps → AllByRecursion (λ n. nat_eq p.from n ≡ false) (map (λ q. q.from) ps)
    others p [] h = tt
    others p (q ∷ ps) h = (ne_eqb p.from q.from h.0, others p ps h.1)

-- each node of a set is dealt once
dealt_above : (n k : ℕ) (old new : List ℕ) → AllByRecursion (λ m. nat_cmp n m ≡ Less) old → AllByRecursion (λ q. n ≢ q.from) (pairs_from_turn k old new)
dealt_above n k [] new h = tt
dealt_above n k (m ∷ old) new h = ((λ same. let less = lower n m h.0 in omega (arith, less, same)), dealt_above n (k + 1) old new h.1)

fresh_dealt : (k : ℕ) (old new : List ℕ) → IsStrictlySortedBy nat_cmp old → AreFresh (pairs_from_turn k old new)
fresh_dealt k [] new h = tt
fresh_dealt k (n ∷ old) new h = (dealt_above n (k + 1) old new (sorted_head nat_cmp n old h), fresh_dealt (k + 1) old new (sorted_tail nat_cmp n old h))

fresh_moving : (old new : List ℕ) → IsStrictlyIncreasing old → AreFresh (pairs_that_move old new)
fresh_moving old new up =
    elim (length new == 0) as (λ b. AreFresh (if b then [] else filter (λ p. not (stays old new p)) (pairs_from_turn 0 old new))) [
      | true ↦ tt
      | false ↦ fresh_filtered (λ p. not (stays old new p)) (pairs_from_turn 0 old new) (fresh_dealt 0 old new (sorted_from_strictly_increasing old up))
    ]

moves_away : (old new : List ℕ) → AllByRecursion (λ p. p.from ≢ p.to) (pairs_that_move old new)
moves_away old new =
    elim (length new == 0) as (λ b. AllByRecursion (λ p. p.from ≢ p.to) (if b then [] else filter (λ p. not (stays old new p)) (pairs_from_turn 0 old new))) [
      | true ↦ tt
      | false ↦
          all_map (λ p. not (stays old new p) ≡ true) (λ p. p.from ≢ p.to) (filter (λ p. not (stays old new p)) (pairs_from_turn 0 old new)) (λ p h same. let stay : stays old new p ≡ true = or_left (p.from == p.to) (not (length old == length new) && is_in new p.from) (eq-eqb p.from p.to same) in let z : false ≡ true = ap not (sym stay) ∙ h in absurd (false≢true z))
          (passes (λ p. not (stays old new p)) (pairs_from_turn 0 old new))
    ]

-- each node is dealt one of the set
dealt_inside : (k : ℕ) (old new : List ℕ) → 0 < length new → AllByRecursion (λ p. is_in new p.to ≡ true) (pairs_from_turn k old new)
dealt_inside k [] new some = tt
dealt_inside k (n ∷ old) new some = (is_in_at new (k % length new) (omega (arith, some)), dealt_inside (k + 1) old new some)

moves_inside : (old new : List ℕ) → AllByRecursion (λ p. is_in new p.to ≡ true) (pairs_that_move old new)
moves_inside old [] = tt
moves_inside old (n ∷ new) =
    let all : List ℕ = n ∷ new in
    subst (λ b. AllByRecursion (λ p. is_in all p.to ≡ true) (if b then [] else filter (λ p. not (stays old all p)) (pairs_from_turn 0 old all))) (sym (ne_eqb (length all) 0 (λ e. omega (arith, e))))
    (all_filtered (λ p. is_in all p.to ≡ true) (λ p. not (stays old all p)) (pairs_from_turn 0 old all) (dealt_inside 0 old all (omega arith)))

pub each_set_is_paired_in_order : EachSetIsPairedInOrder
each_set_is_paired_in_order old new up =
    let left = pairs_that_move old new in
    let n = length left in
    record {
      away = all_after (λ p. p.from ≢ p.to) n old left (moves_away old new);
      inside = all_after (λ p. is_in new p.to ≡ true) n old left (moves_inside old new);
      once = distinct (pairs old new) (fresh_after n old left);
      all = all_come n old left (omega arith) (fresh_moving old new up);
      from_the_end = from_the_end n old left;
    }
