use Rattle.std.proofs.Common.{ap, sym, ◌∙◌}
use Rattle.std.specs.Option.{is_some}
use Rattle.std.proofs.lemmas.Cmp.{upto}
use Rattle.nm_types.specs.declared.page.Page.{Page}
use Rattle.nm_types.proofs.Maps.{page_cmp_total}
use Rattle.nm_coverage.specs.declared.parts.Part.{Part}
use Rattle.nm_coverage.specs.declared.step.Step.{Step}
use Rattle.nm_coverage.proofs.Found.{first_least, last_here}
use Rattle.nm_coverage.proofs.Orders.{less_is}
use Rattle.nm_coverage.proofs.parts.is_empty.Goals as goal

pub returns-in-Some-next_back : goal.returns-in-Some-next_back
returns-in-Some-next_back g c less p some low =
    let first : Page × Step = (c.in-Some.first.now, c.in-Some.field-0-1.now) in
    let last : Page × Part = (c.in-Some-next_back.last.now, c.in-Some-next_back.field-0-1.now) in
    let from = first_least c.args.stored.now c.range.result c.args.start (c.range.ensures.in_range tt) c.next.new.self first c.in-Some.ensures.steps p low some in
    let here = last_here c.args.parts.now c.range-2.result c.in-Some.first.now (c.range-2.ensures.in_range tt) c.next_back.new.self last c.in-Some-next_back.ensures.steps in
    (c.in-Some-next_back.last.now, less_is _ (sym c.is_before.ensures ∙ less), upto page_cmp_total c.in-Some-next_back.last.now c.in-Some.first.now p here.0 from, ap is_some here.1)
