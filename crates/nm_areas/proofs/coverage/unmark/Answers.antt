use Rattle.nm_areas.proofs.Steps.{fewer_ends, no_ends}
use Rattle.nm_areas.proofs.coverage.unmark.Goals as goal

pub returns-then-ends-eq0 : goal.returns-then-ends-eq0
returns-then-ends-eq0 g c ends covers steps =
    no_ends c.args.steps.now c.remove.new.self c.args.page c.args.times c.saturating_sub-ends.result c.in-Some.step (c.in-Some.ensures) c.saturating_sub-ends.ensures ends covers steps c.if-ends-eq0.true c.remove.ensures

pub returns-else-ends-eq0 : goal.returns-else-ends-eq0
returns-else-ends-eq0 g c ends covers steps =
    fewer_ends c.args.steps.now c.replace.new.self c.args.page c.args.times c.saturating_sub-ends.result c.in-Some.step (c.in-Some.ensures) c.saturating_sub-ends.ensures ends covers steps c.if-ends-eq0.false c.replace.ensures
