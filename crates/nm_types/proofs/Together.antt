-- The members of two masks.
use Rattle.std.proofs.Common.{arith, ◌≡◌, ℕ, zero, suc, ◌+◌, ◌^◌, ◌<◌, ◌≤◌, ◌⊎◌, ⊎_elim, inl, inr, min, true, false, cond, Bool, List, [], ◌∷◌, refl, sym, ap, ◌∙◌}
use Rattle.std.specs.Prelude.{◌==◌, ◌&&◌, if◌then◌else◌}
use Rattle.std.specs.Int.{bit_at}
use Rattle.std.specs.Int.RustNames.{bit_and}
use Rattle.std.specs.List.{filter, list_all}
use Rattle.std.proofs.lemmas.Bool.{eqb-true, eqb-false, eq-eqb, ne_eqb, and_parts, false≢true}
use Rattle.std.proofs.lemmas.Nat.{pow_pos}
use Rattle.std.proofs.lemmas.Nat.Bits.{bit_at-lt, bit_at_and}
use Rattle.nm_types.specs.Nodes.{members_from, members, is_in, mask_of}
use Rattle.nm_types.proofs.Members.{is_in-members}

-- two bits, each 0 or 1
bits_of : (a : ℕ) → a < 2 → (a ≡ 0) ⊎ (a ≡ 1)
bits_of a h = elim (a == 0) as (λ b. (a == 0) ≡ b → (a ≡ 0) ⊎ (a ≡ 1)) [
  | true ↦ λ e. inl (eqb-true a 0 e)
  | false ↦ λ e. inr (omega (arith, h, eqb-false a 0 e))
] refl

both_set : (a b : ℕ) → a < 2 → b < 2 → (min a b == 1) ≡ (a == 1) && (b == 1)
both_set a b ha hb =
    ⊎_elim (λ x. ⊎_elim (λ y. rw x (rw y refl)) (λ y. rw x (rw y refl)) (bits_of b hb)) (λ x. ⊎_elim (λ y. rw x (rw y refl)) (λ y. rw x (rw y refl)) (bits_of b hb)) (bits_of a ha)

-- from a place on, what is set in both
both : (a b n k : ℕ) → n + k ≤ 64 → members_from (bit_and a b) n k ≡ filter (is_in (members b)) (members_from a n k)
both a b n zero h = refl
both a b n (suc k) h =
    let rest = both a b (n + 1) k (omega arith) in
    let left = filter (is_in (members b)) (members_from a (n + 1) k) in
    let here : (bit_at (bit_and a b) n == 1) ≡ (bit_at a n == 1) && (bit_at b n == 1) =
    ap (λ x. x == 1) (bit_at_and a b n) ∙ both_set (bit_at a n) (bit_at b n) (bit_at-lt a n) (bit_at-lt b n) in
    ap (λ x. if x then n ∷ members_from (bit_and a b) (n + 1) k else members_from (bit_and a b) (n + 1) k) here
    ∙ ap (λ ms. if (bit_at a n == 1) && (bit_at b n == 1) then n ∷ ms else ms) rest
    ∙ elim (bit_at a n == 1) as (λ x. (if x && (bit_at b n == 1) then n ∷ left else left) ≡ filter (is_in (members b)) (if x then n ∷ members_from a (n + 1) k else members_from a (n + 1) k)) [
      | true ↦ sym (ap (λ x. cond x (n ∷ left) left) (is_in-members b n (omega arith)))
      | false ↦ refl
    ]

pub members-intersection : (a b : ℕ) → members (bit_and a b) ≡ filter (is_in (members b)) (members a)
unfolding members
members-intersection a b = both a b 0 64 (omega arith)

-- a list keeps all where each passes
all_kept : (p : ℕ → Bool) (ns : List ℕ) → list_all p ns ≡ true → filter p ns ≡ ns
all_kept p [] h = refl
all_kept p (n ∷ ns) h =
    let parts = and_parts (p n) (list_all p ns) h in
    ap (λ b. cond b (n ∷ filter p ns) (filter p ns)) parts.0 ∙ ap (λ ms. n ∷ ms) (all_kept p ns parts.1)

smaller : (p : ℕ → Bool) (ns : List ℕ) → mask_of (filter p ns) ≤ mask_of ns
smaller p [] = omega arith
smaller p (n ∷ ns) =
    let rest = smaller p ns in
    elim (p n) as (λ b. mask_of (cond b (n ∷ filter p ns) (filter p ns)) ≤ 2 ^ n + mask_of ns) [ true ↦ omega (arith, rest) | false ↦ omega (arith, rest) ]

-- and only there is the mask the same
kept_all : (p : ℕ → Bool) (ns : List ℕ) → mask_of (filter p ns) ≡ mask_of ns → list_all p ns ≡ true
kept_all p [] h = refl
kept_all p (n ∷ ns) h =
    elim (p n) as (λ b. mask_of (cond b (n ∷ filter p ns) (filter p ns)) ≡ 2 ^ n + mask_of ns → (b && list_all p ns) ≡ true) [
      | true ↦ λ e. kept_all p ns (omega (arith, e))
      | false ↦ λ e. let few = smaller p ns in let some : 0 < 2 ^ n = pow_pos n in let z : ⊥ = omega (arith, few, e, some) in absurd z
    ] h

-- the mask of those that are kept is the same where each is
pub mask_of-subset : (p : ℕ → Bool) (ns : List ℕ) → (mask_of (filter p ns) == mask_of ns) ≡ list_all p ns
mask_of-subset p ns =
    elim (list_all p ns) as (λ b. list_all p ns ≡ b → (mask_of (filter p ns) == mask_of ns) ≡ b) [
      | true ↦ λ e. eq-eqb (mask_of (filter p ns)) (mask_of ns) (ap mask_of (all_kept p ns e))
      | false ↦ λ e. ne_eqb (mask_of (filter p ns)) (mask_of ns) (λ same. absurd (false≢true (sym e ∙ kept_all p ns same)))
    ] refl
