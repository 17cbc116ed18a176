-- Sets of nodes and their masks.
use Rattle.std.proofs.Common.{◌≡◌, ℕ, zero, suc, ◌+◌, ◌*◌, ◌%◌, ◌^◌, ◌<◌, true, false, ◌∷◌, refl, sym, ap, ◌∙◌, arith}
use Rattle.std.specs.Prelude.{◌==◌, if◌then◌else◌}
use Rattle.std.specs.Int.{bit_at}
use Rattle.std.proofs.lemmas.Nat.{mod-pow-add}
use Rattle.std.proofs.lemmas.Nat.Bits.{bit_at-lt}
use Rattle.std.proofs.lemmas.Bool.{eqb-true, eqb-false}
use Rattle.nm_types.specs.Nodes.{members_from, members, mask_of}
use Rattle.nm_types.specs.declared.mask.NodeMask.TheInside.{Inside}

-- the low n + 1 bits of a number are bit n and the low n bits
mod-more : (bits n : ℕ) → bits % 2 ^ (n + 1) ≡ bit_at bits n * 2 ^ n + bits % 2 ^ n
mod-more bits n = let e : n + 1 ≡ 1 + n = omega arith in ap (λ k. bits % 2 ^ k) e ∙ mod-pow-add bits 1 n

-- the mask of the `k` bits from n on, plus the low n bits, is the low n + k bits
mask_of-members_from : (bits n k : ℕ) → mask_of (members_from bits n k) + bits % 2 ^ n ≡ bits % 2 ^ (n + k)
mask_of-members_from bits n zero =
    let e : n + 0 ≡ n = omega arith in
    let z : 0 + bits % 2 ^ n ≡ bits % 2 ^ n = omega arith in
    z ∙ sym (ap (λ k. bits % 2 ^ k) e)
mask_of-members_from bits n (suc k) =
    let ih = mask_of-members_from bits (n + 1) k in
    let more = mod-more bits n in
    let e : (n + 1) + k ≡ n + suc k = omega arith in
    let at : bits % 2 ^ ((n + 1) + k) ≡ bits % 2 ^ (n + suc k) = ap (λ j. bits % 2 ^ j) e in
    let rest = members_from bits (n + 1) k in
    elim (bit_at bits n == 1) as (λ b. (bit_at bits n == 1) ≡ b
    → mask_of (if b then n ∷ rest else rest) + bits % 2 ^ n ≡ bits % 2 ^ (n + suc k)) [
      | true ↦ λ h.
          let one : bit_at bits n ≡ 1 = eqb-true _ _ h in
          let shown : bit_at bits n * 2 ^ n ≡ 2 ^ n = ap (λ x. x * 2 ^ n) one ∙ omega arith in
          omega (arith, ih, more, at, shown)
      | false ↦ λ h.
          let small : bit_at bits n < 2 = bit_at-lt bits n in
          let none : bit_at bits n ≡ 0 = omega (arith, small, eqb-false _ _ h) in
          let shown : bit_at bits n * 2 ^ n ≡ 0 = ap (λ x. x * 2 ^ n) none ∙ omega arith in
          omega (arith, ih, more, at, shown)
    ] refl

pub mask_of-members : (a : Inside) → a.bits < 2 ^ 64 → record { bits = mask_of (members a.bits) } ≡ a
unfolding members
mask_of-members a h =
    let all = mask_of-members_from a.bits 0 64 in
    let none : a.bits % 2 ^ 0 ≡ 0 = omega arith in
    let whole : mask_of (members_from a.bits 0 64) ≡ a.bits = omega (arith, all, none, h) in
    ap (λ (n : ℕ). record { bits = n }) whole
