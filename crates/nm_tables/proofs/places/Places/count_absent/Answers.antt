use Rattle.std.proofs.Common.{◌≡◌, ℕ, zero, suc, refl, ◌-◌, ◌<◌, ap, ◌∙◌, arith, w64, bit_or}
use Rattle.std.specs.Int.{bit_at}
use Rattle.std.proofs.lemmas.Nat.Bits.{bit_at-zero, bit_at-trailing_zeros}
use Rattle.std.proofs.lemmas.Nat.{or_lt}
use Rattle.nm_tables.proofs.Words.{absent_by}
use Rattle.nm_tables.proofs.places.Places.count_absent.Goals as goal

above_zero : (n : ℕ) → (n ≡ 0 → ⊥) → 0 < n
above_zero zero h = absurd (h refl)
above_zero (suc n) h = omega arith

pub returns-then-word-eq0-clause-absent : goal.returns-then-word-eq0-clause-absent
returns-then-word-eq0-clause-absent c i low high =
    absent_by c.args.self.now c.args.place c.rest_of_word.result c.rest_of_word-2.result c.rest_of_word.ensures c.rest_of_word-2.ensures i low high
    (ap (λ n. bit_at n (i - c.args.place)) c.if-word-eq0.true ∙ bit_at-zero (i - c.args.place))

pub returns-clause-absent : goal.returns-clause-absent
returns-clause-absent c i low high =
    let a = c.rest_of_word.result in
    let b = c.rest_of_word-2.result in
    let least = c.min.ensures in
    let apart = c.if-word-eq0.false in
    let some : 0 < bit_or a b = above_zero (bit_or a b) apart in
    let zeros = bit_at-trailing_zeros w64 (bit_or a b) some (or_lt 64 a b c.rest_of_word.type_inv c.rest_of_word-2.type_inv) in
    absent_by c.args.self.now c.args.place a b c.rest_of_word.ensures c.rest_of_word-2.ensures i low (omega (arith, high, least))
    (zeros.2 (i - c.args.place) (omega (arith, low, high, least)))
