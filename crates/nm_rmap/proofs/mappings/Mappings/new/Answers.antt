use Rattle.std.proofs.Common.{sym, ap}
use Rattle.nm_rmap.specs.Mappers.{process_count}
use Rattle.nm_rmap.proofs.mappings.Mappings.new.Goals as goal

pub invariant_of-result : goal.invariant_of-result
invariant_of-result g c = (sym (ap process_count c.new.ensures.empty), c.new.ensures.ordered, tt)
