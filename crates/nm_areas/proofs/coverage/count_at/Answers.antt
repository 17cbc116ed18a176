use Rattle.nm_types.specs.declared.page.Page.{Page}
use Rattle.nm_coverage.specs.declared.step.Step.{Step}
use Rattle.nm_areas.proofs.Steps.{last_tells, last_other, last_none}
use Rattle.nm_areas.proofs.coverage.count_at.Goals as goal

pub returns-then-start-page : goal.returns-then-start-page
returns-then-start-page g c ends covers steps flat =
    let e : Page × Step = (c.in-Some.start, c.in-Some.step) in
    last_tells c.args.steps.now c.args.page ends covers steps flat e c.in-Some.ensures.some c.in-Some.ensures.last c.if-start-page.true

pub returns-else-start-page : goal.returns-else-start-page
returns-else-start-page g c ends covers steps flat =
    let e : Page × Step = (c.in-Some.start, c.in-Some.step) in
    last_other c.args.steps.now c.args.page ends covers steps flat e c.in-Some.ensures.some c.in-Some.ensures.last c.if-start-page.false

pub returns-in-None : goal.returns-in-None
returns-in-None g c ends covers steps flat = last_none c.args.steps.now c.args.page ends covers steps flat c.in-None.ensures.none
