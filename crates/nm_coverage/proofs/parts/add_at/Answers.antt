use Rattle.nm_types.specs.declared.page.Page.{Page}
use Rattle.nm_coverage.specs.declared.parts.Part.{Part}
use Rattle.nm_coverage.proofs.Added.{last_adds, none_adds}
use Rattle.nm_coverage.proofs.parts.add_at.Goals as goal

pub returns-in-Some : goal.returns-in-Some
returns-in-Some g c =
    let e : Page × Part = (c.in-Some.field-0-0.now, c.in-Some.part.now) in
    last_adds c.args.parts.now.entries c.range.result c.next_back.new.self c.args.page e (c.range.ensures.between tt) c.in-Some.ensures.steps

pub returns-in-None : goal.returns-in-None
returns-in-None g c = none_adds c.args.parts.now.entries c.range.result c.args.page (c.range.ensures.between tt) c.in-None.ensures.steps.0
