use Rattle.std.proofs.Common.{sym}
use Rattle.nm_areas.proofs.Indexed.{one_less}
use Rattle.nm_areas.proofs.area_table.AreaTable.take.Goals as goal

pub invariant_of-self : goal.invariant_of-self
invariant_of-self g c =
    one_less c.self.inside.by_segment.keys c.remove-in-Some.new.self.keys c.self.inside.areas.entries c.remove.new.self.entries (c.args.pid, c.args.start) _ c.self.invariant
    (sym c.in-Some.ensures.value) c.remove-in-Some.ensures.updates.0 c.in-Some.ensures.updates.0
