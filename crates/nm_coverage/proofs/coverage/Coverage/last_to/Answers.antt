use Rattle.std.proofs.Common.{sym}
use Rattle.nm_types.specs.declared.page.Page.{Page}
use Rattle.nm_coverage.specs.declared.step.Step.{Step}
use Rattle.nm_coverage.proofs.Found.{last_here, none_past, none_up_to}
use Rattle.nm_coverage.proofs.Seen.{view_some, view_none}
use Rattle.nm_coverage.proofs.coverage.Coverage.last_to.Goals as goal

pub returns-in-Some-clause-some : goal.returns-in-Some-clause-some
returns-in-Some-clause-some g c =
    let e : Page × Step = (c.in-Some.start.now, c.in-Some.step.now) in
    let here = last_here c.self.inside.stored c.range.result c.args.page (c.range.ensures.in_range tt) c.next_back.new.self e c.in-Some.ensures.steps in
    (here.0, view_some c.self.inside.stored.entries c.self.inside.parts.entries c.args.self.now c.self.view_is c.in-Some.start.now _ _ _ c.add_at.ensures c.with_add.ensures (sym here.1))

pub returns-in-Some-clause-last : goal.returns-in-Some-clause-last
returns-in-Some-clause-last g c p less low =
    let e : Page × Step = (c.in-Some.start.now, c.in-Some.step.now) in
    view_none c.self.inside.stored.entries c.self.inside.parts.entries c.args.self.now c.self.view_is p
    (none_past c.self.inside.stored c.range.result c.args.page (c.range.ensures.in_range tt) c.next_back.new.self e c.in-Some.ensures.steps p less low)

pub returns-in-None-clause-none : goal.returns-in-None-clause-none
returns-in-None-clause-none g c p low =
    view_none c.self.inside.stored.entries c.self.inside.parts.entries c.args.self.now c.self.view_is p
    (none_up_to c.self.inside.stored c.range.result c.args.page (c.range.ensures.in_range tt) c.in-None.ensures.steps.0 p low)
