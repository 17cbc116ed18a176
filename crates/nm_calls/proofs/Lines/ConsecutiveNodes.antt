-- Stretches of consecutive nodes, one after another.
use Rattle.std.proofs.Common.{◌≡◌, ℕ, suc, zero, ◌+◌, true, false, cond, List, [], ◌∷◌, ◌++◌, refl, sym, ap, ◌∙◌, append_assoc, eq-eqb, arith}
use Rattle.std.proofs.lemmas.Bool.{ne_eqb}
use Rattle.std.proofs.lemmas.List.{append-nil}
use Rattle.std.specs.Prelude.{◌==◌, Option, Some, None, slice_get, drop}
use Rattle.nm_types.proofs.Cases.{some_is}
use Rattle.std.specs.List.{join_with_byte, flat_map}
use Rattle.nm_types.specs.Nodes.{up_from}
use Rattle.nm_calls.specs.definitions.Maps.{node_in_front, stretches}

-- stretches of which the first begins with this node
abbrev pub extended : ℕ → List (ℕ × ℕ) → List (ℕ × ℕ)
extended first [] = []
extended first (r ∷ rs) = (first, r.1) ∷ rs

front_extended : (n : ℕ) (rs : List (ℕ × ℕ)) → extended n (node_in_front n rs) ≡ node_in_front n rs
front_extended n [] = refl
front_extended n (r ∷ rs) = elim (n + 1 == r.0) as (λ b. extended n (cond b ((n, r.1) ∷ rs) ((n, n) ∷ r ∷ rs)) ≡ cond b ((n, r.1) ∷ rs) ((n, n) ∷ r ∷ rs)) [ true ↦ refl | false ↦ refl ]

pub extended_same : (n : ℕ) (ns : List ℕ) → extended n (stretches (n ∷ ns)) ≡ stretches (n ∷ ns)
extended_same n ns = front_extended n (stretches ns)

-- before a stretch that begins with the next node
before_next : (first n : ℕ) (rs : List (ℕ × ℕ)) → extended first (node_in_front n (node_in_front (n + 1) rs)) ≡ extended first (node_in_front (n + 1) rs)
before_next first n [] = rw (eq-eqb (n + 1) (n + 1) refl) refl
before_next first n (r ∷ rs) =
    elim (n + 1 + 1 == r.0) as (λ b. extended first (node_in_front n (cond b ((n + 1, r.1) ∷ rs) ((n + 1, n + 1) ∷ r ∷ rs))) ≡ extended first (cond b ((n + 1, r.1) ∷ rs) ((n + 1, n + 1) ∷ r ∷ rs))) [
      | true ↦ rw (eq-eqb (n + 1) (n + 1) refl) refl
      | false ↦ rw (eq-eqb (n + 1) (n + 1) refl) refl
    ]

pub extended_next : (first n m : ℕ) (ns : List ℕ) → n + 1 ≡ m → extended first (stretches (n ∷ m ∷ ns)) ≡ extended first (stretches (m ∷ ns))
extended_next first n m ns e = rw (sym e) (before_next first n (stretches ns))

-- before one that begins otherwise
apart : (n m : ℕ) (rs : List (ℕ × ℕ)) → (n + 1 ≡ m → ⊥) → node_in_front n (node_in_front m rs) ≡ (n, n) ∷ node_in_front m rs
apart n m [] h = rw (ne_eqb (n + 1) m h) refl
apart n m (r ∷ rs) h =
    elim (m + 1 == r.0) as (λ b. node_in_front n (cond b ((m, r.1) ∷ rs) ((m, m) ∷ r ∷ rs)) ≡ (n, n) ∷ cond b ((m, r.1) ∷ rs) ((m, m) ∷ r ∷ rs)) [
      | true ↦ rw (ne_eqb (n + 1) m h) refl
      | false ↦ rw (ne_eqb (n + 1) m h) refl
    ]

pub ends_here : (first n m : ℕ) (ns : List ℕ) → (n + 1 ≡ m → ⊥) → extended first (stretches (n ∷ m ∷ ns)) ≡ (first, n) ∷ stretches (m ∷ ns)
ends_here first n m ns h = ap (extended first) (apart n m (stretches ns) h)

-- texts, the first after one word and the others after commas
abbrev pub joined_after : List ℕ → List (List ℕ) → List ℕ
joined_after word [] = []
joined_after word (t ∷ ts) = word ++ t ++ joined_after (44 ∷ []) ts

pub joined_by_commas : (ts : List (List ℕ)) → join_with_byte 44 ts ≡ joined_after [] ts
joined_by_commas [] = refl
joined_by_commas (t ∷ []) = sym (append-nil t)
joined_by_commas (t ∷ u ∷ ts) = ap (λ xs. t ++ (44 ∷ xs)) (joined_by_commas (u ∷ ts))

-- one number further
up_next : (n k : ℕ) → up_from n (k + 1) ≡ up_from n k ++ (n + k) ∷ []
up_next n zero = let e : n ≡ n + 0 = omega arith in ap (λ m. m ∷ []) e
up_next n (suc k) =
    let e : n + 1 + k ≡ n + suc k = omega arith in
    let more : suc k + 1 ≡ suc (k + 1) = omega arith in
    ap (up_from n) more ∙ ap (λ ns. n ∷ ns) (up_next (n + 1) k ∙ ap (λ m. up_from (n + 1) k ++ m ∷ []) e)

flat_map_more : (f : ℕ → List ℕ) (xs : List ℕ) (y : ℕ) → flat_map f (xs ++ y ∷ []) ≡ flat_map f xs ++ f y
flat_map_more f [] y = append-nil (f y)
flat_map_more f (x ∷ xs) y = ap (λ t. f x ++ t) (flat_map_more f xs y) ∙ sym (append_assoc (f x) (flat_map f xs) (f y))

pub flat_map_up : (f : ℕ → List ℕ) (k : ℕ) → flat_map f (up_from 0 (k + 1)) ≡ flat_map f (up_from 0 k) ++ f k
flat_map_up f k =
    let none : 0 + k ≡ k = omega arith in
    ap (flat_map f) (up_next 0 k ∙ ap (λ m. up_from 0 k ++ m ∷ []) none) ∙ flat_map_more f (up_from 0 k) k

-- the first of a list, and those after it
pub head_is : (ns : List ℕ) (o : Option ℕ) (n : ℕ) → o ≡ slice_get ns 0 → o ≡ Some n → ns ≡ n ∷ drop 1 ns
head_is [] o n at is = cc
head_is (m ∷ ns) o n at is = let e : m ≡ n = some_is (sym at ∙ is) in ap (λ k. k ∷ ns) e

pub none_left : (ns : List ℕ) (o : Option ℕ) → o ≡ slice_get ns 0 → o ≡ None → ns ≡ []
none_left [] o at is = refl
none_left (m ∷ ns) o at is = cc

-- the last stretch of a list ends it
pub ends_all : (first n : ℕ) → extended first (stretches (n ∷ [])) ≡ (first, n) ∷ stretches []
ends_all first n = refl
