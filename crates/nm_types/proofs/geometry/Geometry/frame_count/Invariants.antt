use Rattle.std.proofs.Common.{◌≡◌, sum, take}
use Rattle.nm_types.proofs.geometry.Geometry.frame_count.Given as goal

abbrev pub invariant-loop-size : goal.invariant-loop-size
invariant-loop-size g l = record {
  same : l.size-items ≡ l.self.sizes;
  added : l.frames ≡ sum (take l.size-index l.size-items);
}
