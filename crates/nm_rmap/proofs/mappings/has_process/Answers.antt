use Rattle.std.proofs.Common.{List, sym, ap, ◌∙◌}
use Rattle.nm_rmap.specs.Mappers.{Mapper}
use Rattle.nm_rmap.proofs.Counting.{starts_with, range_tells}
use Rattle.nm_rmap.proofs.mappings.has_process.Goals as goal

pub returns-in-Some : goal.returns-in-Some
returns-in-Some g c =
    c.eq.ensures ∙ sym (range_tells c.args.pid c.new.result c.args.tree.now.keys c.range.result (c.range.ensures.between tt) c.new.ensures c.range.ensures.ordered
    ∙ ap (λ (ss : List Mapper). starts_with ss c.args.pid) c.in-Some.ensures.steps)

pub returns-in-None : goal.returns-in-None
returns-in-None g c =
    sym (range_tells c.args.pid c.new.result c.args.tree.now.keys c.range.result (c.range.ensures.between tt) c.new.ensures c.range.ensures.ordered
    ∙ ap (λ (ss : List Mapper). starts_with ss c.args.pid) c.in-None.ensures.steps.0)
