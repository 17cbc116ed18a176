use Rattle.std.proofs.Common.{◌≡◌, length}
use Rattle.nm_model.specs.definitions.Areas.{segments_left, others}
use Rattle.nm_areas.proofs.area_table.AreaTable.drop_own.Given as goal

abbrev pub invariant-loop-start : goal.invariant-loop-start
invariant-loop-start g l = record {
  others : others l.pid l.first l.end l.self.areas ≡ others l.pid l.first l.end l.fn.self.areas;
  next : l.self.next ≡ l.fn.self.next;
  segments : l.self.segments ≡ segments_left l.fn.self.segments l.self.areas;
}

abbrev pub decreases-loop-start : goal.decreases-loop-start
decreases-loop-start g l = length l.self.areas
