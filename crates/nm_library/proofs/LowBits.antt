-- The members of a mask's low bits, one more bit at a time.
use Rattle.std.proofs.Common.{◌≡◌, ℕ, ◌+◌, ◌*◌, ◌%◌, ◌^◌, ◌<◌, bit_and, bit_or, sym, ap, ◌∙◌, arith}
use Rattle.std.specs.Int.{bit_at}
use Rattle.std.specs.Ordering.{nat_cmp}
use Rattle.std.specs.BTreeSet.{insert_key}
use Rattle.std.proofs.lemmas.Nat.{mod-pow-add, pow_pos, and_block, or_disjoint}
use Rattle.std.proofs.Math.Nat.{mod-lt}
use Rattle.std.proofs.Math.Pow.{pow-lt}
use Rattle.std.specs.Int.Bits.{and_zero_r}
use Rattle.nm_types.specs.Nodes.{members}
use Rattle.nm_types.proofs.Members.{members-insert}

-- the low n + 1 bits are bit n and the low n bits
one_more : (bits n : ℕ) → bits % 2 ^ (n + 1) ≡ bit_at bits n * 2 ^ n + bits % 2 ^ n
one_more bits n = let e : n + 1 ≡ 1 + n = omega arith in ap (λ k. bits % 2 ^ k) e ∙ mod-pow-add bits 1 n

-- a bit and the bits below it have none in common
apart : (low n : ℕ) → low < 2 ^ n → bit_and low (2 ^ n) ≡ 0
apart low n small =
    let block = and_block n 0 1 low 0 small (pow_pos n) in
    let first : 0 * 2 ^ n + low ≡ low = omega arith in
    let second : 1 * 2 ^ n + 0 ≡ 2 ^ n = omega arith in
    let sum : bit_and 0 1 * 2 ^ n + bit_and low 0 ≡ 0 = ap (λ x. 0 * 2 ^ n + x) (and_zero_r low) ∙ omega arith in
    sym (ap (λ x. bit_and x (1 * 2 ^ n + 0)) first ∙ ap (λ x. bit_and low x) second) ∙ block ∙ sum

pub with_bit : (bits n : ℕ) → n < 64 → bit_at bits n ≡ 1 → insert_key nat_cmp (members (bits % 2 ^ n)) n ≡ members (bits % 2 ^ (n + 1))
with_bit bits n h set =
    let low = bits % 2 ^ n in
    let below = pow-lt h in
    let fits : 1 * 2 ^ n % 2 ^ 64 ≡ 2 ^ n = omega (arith, below) in
    let sum : bit_or low (2 ^ n) ≡ low + 2 ^ n = or_disjoint low (2 ^ n) (apart low n (mod-lt bits (pow_pos n))) in
    let shown : bit_at bits n * 2 ^ n ≡ 2 ^ n = ap (λ x. x * 2 ^ n) set ∙ omega arith in
    let more = one_more bits n in
    sym (members-insert low n h) ∙ ap members (ap (λ b. bit_or low b) fits ∙ sum ∙ omega (arith, more, shown))

pub without_bit : (bits n : ℕ) → bit_at bits n ≡ 0 → members (bits % 2 ^ n) ≡ members (bits % 2 ^ (n + 1))
without_bit bits n none =
    let hidden : bit_at bits n * 2 ^ n ≡ 0 = ap (λ x. x * 2 ^ n) none ∙ omega arith in
    let more = one_more bits n in
    ap members (omega (arith, more, hidden))
