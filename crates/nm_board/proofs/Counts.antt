-- Counts of tickets, and places in lists.
use Rattle.std.proofs.Common.{◌≡◌, ℕ, zero, suc, ◌+◌, ◌-◌, ◌%◌, ◌^◌, ◌<◌, ◌≤◌, ◌≢◌, Bool, true, false, List, [], ◌∷◌, ◌++◌, length, set, sym, refl, ap, ◌∙◌, arith, min, mod-eq_of_lt, if◌then◌else◌, ◌||◌, Some}
use mathlib.Core.Option.{some, some-injective, some-ne-none}
use lib.ListN.{get_elem?}
use Rattle.std.specs.Prelude.{slice_get}
use Rattle.std.proofs.lemmas.Bool.Decides.{nat_tests}
use Rattle.atomic_table.proofs.Lists.{set_here, set_else}
use Rattle.nm_board.specs.Tickets.{hit, ticket_times, once_below}

pub times_append : (t : ℕ) (xs ys : List ℕ) → ticket_times t (xs ++ ys) ≡ ticket_times t xs + ticket_times t ys
times_append t [] ys = omega arith
times_append t (x ∷ xs) ys = omega (arith, times_append t xs ys)

pub step_is : (n : ℕ) → n < 2 ^ 63 + 64 → (n + 1) % 2 ^ 64 ≡ n + 1
step_is n h = mod-eq_of_lt (omega arith)

pub hit_same : (t : ℕ) → hit t t ≡ 1
hit_same t = grind (arith, nat_tests)

pub hit_other : (t s : ℕ) → t ≢ s → hit t s ≡ 0
hit_other t s h = grind (arith, nat_tests)

pub once_step : (t next : ℕ) → once_below t (next + 1) ≡ once_below t next + hit t next
once_step t next = grind (arith, nat_tests)

pub once_next : (t next n : ℕ) → next < n → once_below t (min (next + 1) n) ≡ once_below t (min next n) + hit t next
once_next t next n h =
    let a : min (next + 1) n ≡ next + 1 = omega arith in let b : min next n ≡ next = omega arith in
    rw (a, b) (once_step t next)

pub get_lt : {A : Type 0} (l : List A) (i : ℕ) → i < length l → (a : A) × (get_elem? l i ≡ some a)
get_lt [] i h = absurd (omega arith)
get_lt (x ∷ xs) zero h = (x, refl)
get_lt (x ∷ xs) (suc i) h = get_lt xs i (omega arith)

pub lt_get : {A : Type 0} (l : List A) (i : ℕ) (a : A) → get_elem? l i ≡ some a → i < length l
lt_get [] i a e = absurd (some-ne-none a (sym e))
lt_get (x ∷ xs) zero a e = omega arith
lt_get (x ∷ xs) (suc i) a e = omega (arith, lt_get xs i a e)

pub none_at : (t next : ℕ) → t ≡ next → once_below t next ≡ 0
none_at t next e = grind (arith, nat_tests)

pub once_lt : (t n : ℕ) → 0 < once_below t n → t < n
once_lt t n h = grind (arith, nat_tests)

pub not_once : (t next n : ℕ) → 0 < once_below t (min next n) → t ≡ next → next < n → ⊥
not_once t next n h e lt = let b : min next n ≡ next = omega arith in let z : once_below t next ≡ 0 = none_at t next e in omega (arith, ap (once_below t) b)

pub min_stays : (next n : ℕ) → n ≤ next → min (next + 1) n ≡ min next n
min_stays next n h = omega arith

pub past_le : (b : Bool) (n : ℕ) → (if b then n else 0) ≤ n
past_le true n = omega arith
past_le false n = omega arith

pub within_more : (u t : ℕ) (done drawn : List ℕ) → ticket_times u done ≤ ticket_times u drawn → ticket_times t done < ticket_times t drawn → Dec (u ≡ t) → ticket_times u (done ++ t ∷ []) ≤ ticket_times u drawn
within_more u t done drawn le lt (yes e) = let a = ap (λ (x : ℕ). ticket_times x done) e in let b = ap (λ (x : ℕ). ticket_times x drawn) e in let c : hit u t ≡ 1 = ap (λ (x : ℕ). hit x t) e ∙ hit_same t in omega (arith, times_append u done (t ∷ []))
within_more u t done drawn le lt (no ne) = omega (arith, times_append u done (t ∷ []), hit_other u t ne)

pub back_set : {A : Type 0} (homes : List A) (t u : ℕ) (x y : A) → t < length homes → (u ≡ t → x ≡ y) → (u ≢ t → get_elem? homes u ≡ some y) → Dec (u ≡ t) → get_elem? (set homes t x) u ≡ some y
back_set homes t u x y there hit_here miss (yes e) = ap (get_elem? (set homes t x)) e ∙ (set_here homes t x there ∙ ap some (hit_here e))
back_set homes t u x y there hit_here miss (no ne) = set_else homes t u x ne ∙ miss ne

pub past_split : (b : Bool) (x n : ℕ) → n < x → (if b then (x - n) else 0) + (if b then n else 0) ≡ (if b then x else 0)
past_split true x n h = omega arith
past_split false x n h = refl

pub past_join : (a b : Bool) (x y : ℕ) → (if a then x else 0) + (if b then y else 0) ≤ (if (a || b) then (x + y) else 0)
past_join true true x y = omega arith
past_join true false x y = omega arith
past_join false true x y = omega arith
past_join false false x y = omega arith

pub or_case : (a b : Bool) (P : Type 0) → (a ≡ true → P) → (b ≡ true → P) → (a || b) ≡ true → P
or_case true b P f g e = f refl
or_case false b P f g e = g e

pub once_zero : (t n : ℕ) → once_below t (min 0 n) ≡ 0
once_zero t n = grind (arith, nat_tests)

pub once_le : (t n : ℕ) → once_below t n ≤ 1
once_le t n = grind (arith, nat_tests)

-- a place of the list, said in the two ways
pub get_of : {X : Type 0} (l : List X) (i : ℕ) (x : X) → get_elem? l i ≡ some x → slice_get l i ≡ Some x
get_of [] i x e = absurd (some-ne-none x (sym e))
get_of (y ∷ ys) zero x e = ap Some (some-injective y x e)
get_of (y ∷ ys) (suc i) x e = get_of ys i x e

pub elem_of : {X : Type 0} (l : List X) (i : ℕ) (x : X) → slice_get l i ≡ Some x → get_elem? l i ≡ some x
elem_of [] i x e = absurd (cc)
elem_of (y ∷ ys) zero x e = let h : y ≡ x = cc in ap some h
elem_of (y ∷ ys) (suc i) x e = elem_of ys i x e
