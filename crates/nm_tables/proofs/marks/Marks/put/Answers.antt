use Rattle.std.proofs.Common.{◌/◌, ◌%◌, ◌*◌, ◌-◌, ◌^◌, ◌==◌, true, false, bit_or, bit_and, w64, ap, sym, ◌∙◌, arith}
use Rattle.std.specs.Prelude.{slice_index_or, if◌then◌else◌}
use Rattle.std.proofs.lemmas.Nat.Bits.{bit_at_set_same, bit_at_set_other, bit_at_clear_same, bit_at_clear_other}
use Rattle.nm_tables.specs.views.Marks.{is_marked}
use Rattle.nm_tables.proofs.Bits.{word-changed}
use Rattle.nm_tables.proofs.marks.Marks.put.Goals as goal

pub returns-then-marked : goal.returns-then-marked
returns-then-marked c =
    let p = c.args.place in
    let old = slice_index_or c.args.self.now.words (p / 64) 0 in
    let t = word-changed c.args.self.now.words p (bit_or old (1 * 2 ^ (p % 64) % 2 ^ 64)) true (omega arith)
    (ap (λ n. n == 1) (bit_at_set_same w64 old (p % 64) (omega arith))) (λ j l n. bit_at_set_other w64 old (p % 64) (omega arith) j n) in
    λ i. t i ∙ ap (λ b. if i == p then b else is_marked c.args.self.now.words i) (sym c.if-marked.true)

pub returns-else-marked : goal.returns-else-marked
returns-else-marked c =
    let p = c.args.place in
    let old = slice_index_or c.args.self.now.words (p / 64) 0 in
    let t = word-changed c.args.self.now.words p (bit_and old (18446744073709551615 - 1 * 2 ^ (p % 64) % 18446744073709551616)) false (omega arith)
    (ap (λ n. n == 1) (bit_at_clear_same w64 old (p % 64) (omega arith))) (λ j l n. bit_at_clear_other w64 old (p % 64) (omega arith) j l n) in
    λ i. t i ∙ ap (λ b. if i == p then b else is_marked c.args.self.now.words i) (sym c.if-marked.false)
