use Rattle.std.proofs.Common.{◌≡◌, ◌≤◌, sum, take}
use Rattle.nm_types.proofs.geometry.few_frames.Given as goal

abbrev pub invariant-loop-size : goal.invariant-loop-size
invariant-loop-size l = record {
  added : l.frames ≡ sum (take l.size-index l.sizes);
  few : l.frames ≤ 16384;
}
