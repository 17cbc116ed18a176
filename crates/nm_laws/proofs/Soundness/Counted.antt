-- How often a frame is in lists of free frames.
use Rattle.std.proofs.Common.{◌≡◌, ℕ, suc, zero, ◌+◌, ◌<◌, ◌≤◌, Bool, true, false, cond, List, [], ◌∷◌, refl, ap, ◌∙◌, arith, eq-eqb, ◌||◌}
use Rattle.std.specs.Prelude.{Some, nat_lt, ◌==◌, drop, slice_get, slice_index, slice_index_or}
use Rattle.std.specs.List.{sum_by}
use Rattle.std.proofs.lemmas.Bool.{ltb-true}
use Rattle.std.proofs.lemmas.List.Sums.{sum_by-cons}
use Rattle.nm_types.specs.Nodes.{is_in}
use Rattle.nm_model.specs.definitions.Sound.{times}
use Rattle.nm_laws.proofs.Soundness.Frames.{here, times_cons}

-- the front of a list
pub front_is : (xs : List ℕ) (f : ℕ) → slice_get xs 0 ≡ Some f → xs ≡ f ∷ drop 1 xs
front_is [] f e = cc
front_is (x ∷ xs) f e = let same : x ≡ f = cc in ap (λ y. y ∷ xs) same

pub index_front : (xs : List ℕ) (f : ℕ) → slice_get xs 0 ≡ Some f → slice_index xs 0 ≡ f
index_front [] f e = cc
index_front (x ∷ xs) f e = cc

-- a frame that is in one of them is one of the machine's
pub counted_below : (a b c f n : ℕ) → a + b + c ≡ cond (nat_lt f n) 1 0 → 1 ≤ a + b + c → f < n
counted_below a b c f n e some =
    elim (nat_lt f n) as (λ t. nat_lt f n ≡ t → a + b + c ≡ cond t 1 0 → f < n) [
      | true ↦ λ t k. ltb-true f n t
      | false ↦ λ t k. absurd (omega (arith, k, some))
    ] refl e

pub counted_once : (a b c : ℕ) (t : Bool) → a + b + c ≡ cond t 1 0 → a + b + c ≤ 1
counted_once a b c true e = omega (arith, e)
counted_once a b c false e = omega (arith, e)

-- a list's front is counted among the free frames
pub counted_front : (free : List (List ℕ)) (node f : ℕ) → slice_get (slice_index_or free node []) 0 ≡ Some f → 1 ≤ sum_by (times f) free
counted_front [] node f e = cc
counted_front (xs ∷ free) zero f e =
    let whole : sum_by (times f) (xs ∷ free) ≡ times f xs + sum_by (times f) free = sum_by-cons (times f) xs free in
    let here_it : times f xs ≡ here f f + times f (drop 1 xs) = ap (times f) (front_is xs f e) ∙ times_cons f f (drop 1 xs) in
    let one : here f f ≡ 1 = ap (λ b. cond b 1 0) (eq-eqb f f refl) in
    omega (arith, whole, here_it, one)
counted_front (xs ∷ free) (suc node) f e =
    let whole : sum_by (times f) (xs ∷ free) ≡ times f xs + sum_by (times f) free = sum_by-cons (times f) xs free in
    let rest = counted_front free node f e in
    omega (arith, whole, rest)

pub not_in : (xs : List ℕ) (f : ℕ) → times f xs ≡ 0 → is_in xs f ≡ false
not_in [] f e = refl
not_in (x ∷ xs) f e =
    elim (x == f) as (λ b. (x == f) ≡ b → (b || is_in xs f) ≡ false) [
      | true ↦ λ h. let one : here f x ≡ 1 = ap (λ b. cond b 1 0) h in absurd (omega (arith, e, times_cons f x xs, one))
      | false ↦ λ h. not_in xs f (omega (arith, e, times_cons f x xs))
    ] refl

pub part_of : (free : List (List ℕ)) (node f : ℕ) → times f (slice_index_or free node []) ≤ sum_by (times f) free
part_of [] node f = omega arith
part_of (xs ∷ free) zero f = let whole : sum_by (times f) (xs ∷ free) ≡ times f xs + sum_by (times f) free = sum_by-cons (times f) xs free in omega (arith, whole)
part_of (xs ∷ free) (suc node) f =
    let whole : sum_by (times f) (xs ∷ free) ≡ times f xs + sum_by (times f) free = sum_by-cons (times f) xs free in
    let rest = part_of free node f in
    omega (arith, whole, rest)
