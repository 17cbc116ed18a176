-- The members of a mask, in ascending order, and the mask without the lowest.
use Rattle.std.proofs.Common.{◌≡◌, ◌≢◌, ℕ, zero, suc, ◌+◌, ◌*◌, ◌%◌, ◌<◌, ◌≤◌, ◌^◌, ⊎_elim, true, false, not, ◌∷◌, length, get_or, refl, sym, ap, ◌∙◌, arith, w64}
use Rattle.std.specs.Prelude.{◌==◌, if◌then◌else◌}
use Rattle.std.specs.Int.{bit_at, bit_not, trailing_zeros}
use Rattle.std.specs.Int.RustNames.{bit_and}
use Rattle.std.specs.List.{AllByRecursion}
use Rattle.std.specs.List.Sorted.{IsStrictlySortedBy}
use Rattle.std.specs.Ordering.{nat_cmp}
use Rattle.std.specs.declared.cmp.Ordering.TheVariants.{Less}
use Rattle.std.proofs.lemmas.Bool.{cases_eq, cases_order, eq-eqb, ne_eqb}
use Rattle.std.proofs.lemmas.Map.Keys.{IsStrictlyIncreasing-from_sorted}
use Rattle.std.proofs.lemmas.Nat.Bits.{bit_at-trailing_zeros, bit_at_clear_same, bit_at_clear_other}
use Rattle.nm_types.specs.Nodes.{members_from, members, without_node, IsNodeSet}
use Rattle.nm_types.proofs.Members.{less}

-- the same bits have the same members
alike : (a b n k : ℕ) → ((i : ℕ) → n ≤ i → i < n + k → bit_at a i ≡ bit_at b i) → members_from a n k ≡ members_from b n k
alike a b n zero h = refl
alike a b n (suc k) h =
    ap (λ x. if x == 1 then n ∷ members_from a (n + 1) k else members_from a (n + 1) k) (h n (omega arith) (omega arith))
    ∙ ap (λ rest. if bit_at b n == 1 then n ∷ rest else rest) (alike a b (n + 1) k (λ i le lt. h i (omega arith) (omega arith)))

-- the lowest member comes first, and the others are those of the mask without it
lowest : (a b n k t : ℕ) → n ≤ t → t < n + k → bit_at b t ≡ 1 → ((i : ℕ) → i < t → bit_at b i ≡ 0) → bit_at a t ≡ 0
    → ((i : ℕ) → i < n + k → i ≢ t → bit_at a i ≡ bit_at b i) → members_from b n k ≡ t ∷ members_from a n k
lowest a b n zero t le lt one none gone others = absurd (omega arith)
lowest a b n (suc k) t le lt one none gone others =
    ⊎_elim
    (λ e.
    let b-set : bit_at b n ≡ 1 = ap (bit_at b) e ∙ one in
    let a-unset : bit_at a n ≡ 0 = ap (bit_at a) e ∙ gone in
    let rest : members_from b (n + 1) k ≡ members_from a (n + 1) k = alike b a (n + 1) k (λ i le lt. sym (others i (omega arith) (λ x. omega arith))) in
    ap (λ x. if x == 1 then n ∷ members_from b (n + 1) k else members_from b (n + 1) k) b-set ∙ ap (λ m. m ∷ members_from b (n + 1) k) e
    ∙ ap (λ ms. t ∷ ms) (rest ∙ ap (λ x. if x == 1 then n ∷ members_from a (n + 1) k else members_from a (n + 1) k) (sym a-unset)))
    (λ o. ⊎_elim
    (λ below.
    let b-unset : bit_at b n ≡ 0 = none n below in
    let a-unset : bit_at a n ≡ 0 = others n (omega arith) (λ x. omega arith) ∙ b-unset in
    let rest = lowest a b (n + 1) k t (omega arith) (omega arith) one none gone (λ i lt ne. others i (omega arith) ne) in
    ap (λ x. if x == 1 then n ∷ members_from b (n + 1) k else members_from b (n + 1) k) b-unset ∙ rest
    ∙ ap (λ ms. t ∷ ms) (ap (λ x. if x == 1 then n ∷ members_from a (n + 1) k else members_from a (n + 1) k) (sym a-unset)))
    (λ above. absurd (omega arith)) o)
    (cases_order n t)

pub members-without_first : (bits : ℕ) → 0 < bits → bits < 2 ^ 64
    → members bits ≡ trailing_zeros w64 bits ∷ members (bit_and bits (bit_not w64 (1 * 2 ^ (trailing_zeros w64 bits) % 2 ^ 64)))
unfolding members
members-without_first bits some small =
    let t = trailing_zeros w64 bits in
    let is = bit_at-trailing_zeros w64 bits some small in
    lowest (bit_and bits (bit_not w64 (1 * 2 ^ t % 2 ^ 64))) bits 0 64 t (omega arith) (omega (arith, is.0)) is.1 is.2 (bit_at_clear_same w64 bits t is.0)
    (λ i lt ne. bit_at_clear_other w64 bits t is.0 i (omega arith) ne)

-- there are at most as many members as places
few : (bits n k : ℕ) → length (members_from bits n k) ≤ k
few bits n zero = omega arith
few bits n (suc k) =
    let ih = few bits (n + 1) k in
    elim (bit_at bits n == 1) as (λ b. length (if b then n ∷ members_from bits (n + 1) k else members_from bits (n + 1) k) ≤ suc k) [ true ↦ omega arith | false ↦ omega arith ]

pub length-members : (bits : ℕ) → length (members bits) ≤ 64
unfolding members
length-members bits = few bits 0 64

-- members of later places are above an earlier one
beyond : (bits j n k : ℕ) → j < n → AllByRecursion (λ m. nat_cmp j m ≡ Less) (members_from bits n k)
beyond bits j n zero h = tt
beyond bits j n (suc k) h =
    let rest = beyond bits j (n + 1) k (omega arith) in
    elim (bit_at bits n == 1) as (λ b. AllByRecursion (λ m. nat_cmp j m ≡ Less) (if b then n ∷ members_from bits (n + 1) k else members_from bits (n + 1) k)) [
      | true ↦ (less j n h, rest)
      | false ↦ rest
    ]

up : (bits n k : ℕ) → IsStrictlySortedBy nat_cmp (members_from bits n k)
unfolding IsStrictlySortedBy
up bits n zero = tt
up bits n (suc k) =
    let rest = up bits (n + 1) k in
    elim (bit_at bits n == 1) as (λ b. IsStrictlySortedBy nat_cmp (if b then n ∷ members_from bits (n + 1) k else members_from bits (n + 1) k)) [
      | true ↦ (beyond bits n (n + 1) k (omega arith), rest)
      | false ↦ rest
    ]

within : (bits n k : ℕ) (i d : ℕ) → i < length (members_from bits n k) → get_or (members_from bits n k) i d < n + k
within bits n zero i d h = absurd (omega arith)
within bits n (suc k) i d h =
    elim (bit_at bits n == 1) as (λ b. i < length (if b then n ∷ members_from bits (n + 1) k else members_from bits (n + 1) k) → get_or (if b then n ∷ members_from bits (n + 1) k else members_from bits (n + 1) k) i d < n + suc k) [
      | true ↦ elim i as (λ j. j < length (n ∷ members_from bits (n + 1) k) → get_or (n ∷ members_from bits (n + 1) k) j d < n + suc k) [
        | zero ↦ λ _. omega arith
        | suc j ↦ λ lt. let ih = within bits (n + 1) k j d (omega arith) in omega arith
      ]
      | false ↦ λ lt. let ih = within bits (n + 1) k i d lt in omega arith
    ] h

pub IsNodeSet-members : (bits : ℕ) → IsNodeSet (members bits)
unfolding members
IsNodeSet-members bits = record {
  upwards = IsStrictlyIncreasing-from_sorted (members_from bits 0 64) (up bits 0 64);
  below = λ i d h. let lt = within bits 0 64 i d h in omega arith;
}

-- the members of a mask but for one are those of the mask without its bit
without : (a b n k t : ℕ) → bit_at a t ≡ 0 → ((i : ℕ) → i < n + k → i ≢ t → bit_at a i ≡ bit_at b i) → members_from a n k ≡ without_node (members_from b n k) t
without a b n zero t gone others = refl
without a b n (suc k) t gone others =
    let rest = without a b (n + 1) k t gone (λ i lt ne. others i (omega arith) ne) in
    let left = without_node (members_from b (n + 1) k) t in
    ⊎_elim
    (λ e.
    let unset : bit_at a n ≡ 0 = ap (bit_at a) e ∙ gone in
    ap (λ x. if x == 1 then n ∷ members_from a (n + 1) k else members_from a (n + 1) k) unset ∙ rest
    ∙ elim (bit_at b n == 1) as (λ bit. left ≡ without_node (if bit then n ∷ members_from b (n + 1) k else members_from b (n + 1) k) t) [
      | true ↦ sym (ap (λ bit. if not bit then n ∷ left else left) (eq-eqb n t e))
      | false ↦ refl
    ])
    (λ ne.
    ap (λ x. if x == 1 then n ∷ members_from a (n + 1) k else members_from a (n + 1) k) (others n (omega arith) ne)
    ∙ ap (λ ms. if bit_at b n == 1 then n ∷ ms else ms) rest
    ∙ elim (bit_at b n == 1) as (λ bit. (if bit then n ∷ left else left) ≡ without_node (if bit then n ∷ members_from b (n + 1) k else members_from b (n + 1) k) t) [
      | true ↦ sym (ap (λ bit. if not bit then n ∷ left else left) (ne_eqb n t ne))
      | false ↦ refl
    ])
    (cases_eq n t)

pub members-remove : (bits t : ℕ) → t < 64 → members (bit_and bits (bit_not w64 (1 * 2 ^ t % 2 ^ 64))) ≡ without_node (members bits) t
unfolding members
members-remove bits t h = without (bit_and bits (bit_not w64 (1 * 2 ^ t % 2 ^ 64))) bits 0 64 t (bit_at_clear_same w64 bits t h) (λ i lt ne. bit_at_clear_other w64 bits t h i (omega arith) ne)

-- what is no place is no member
without_none : (bits n k t : ℕ) → n + k ≤ t → members_from bits n k ≡ without_node (members_from bits n k) t
without_none bits n zero t h = refl
without_none bits n (suc k) t h =
    let rest = without_none bits (n + 1) k t (omega arith) in
    let ne : n ≢ t = λ e. omega arith in
    elim (bit_at bits n == 1) as (λ bit. (if bit then n ∷ members_from bits (n + 1) k else members_from bits (n + 1) k) ≡ without_node (if bit then n ∷ members_from bits (n + 1) k else members_from bits (n + 1) k) t) [
      | true ↦ ap (λ ms. n ∷ ms) rest ∙ sym (ap (λ bit. if not bit then n ∷ without_node (members_from bits (n + 1) k) t else without_node (members_from bits (n + 1) k) t) (ne_eqb n t ne))
      | false ↦ rest
    ]

pub members-remove_none : (bits t : ℕ) → 64 ≤ t → members bits ≡ without_node (members bits) t
unfolding members
members-remove_none bits t h = without_none bits 0 64 t h
