use Rattle.std.proofs.Common.{sym, arith}
use Rattle.std.proofs.lemmas.Bool.{false_from_ne_true}
use Rattle.nm_areas.proofs.Private.{stretch_shared}
use Rattle.nm_areas.proofs.area_table.AreaTable.stretch_of.Goals as goal

pub returns-then-segment-from-clause-none : goal.returns-then-segment-from-clause-none
returns-then-segment-from-clause-none g c =
    let x = c.args in
    false_from_ne_true _ (λ b.
    let low = (stretch_shared x.self.now.segments x.segment x.offset x.pages x.self.now.next c.requires.numbers (sym b)).1 in
    omega (arith, low, c.if-segment-from.true, c.from.ensures, c.next_segment.ensures))
