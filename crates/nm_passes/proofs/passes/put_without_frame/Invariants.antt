use Rattle.std.proofs.Common.{◌≡◌, ◌≤◌, length, take, vec_capacity}
use Rattle.nm_passes.specs.definitions.Passes.{short_of_frames}
use Rattle.nm_passes.proofs.passes.put_without_frame.Given as goal

abbrev pub invariant-loop-k : goal.invariant-loop-k
invariant-loop-k g l = record {
  few : length l.left.items ≤ l.k;
  room : length l.wanted ≤ vec_capacity l.left;
  left : l.left.items ≡ short_of_frames (take l.k l.wanted) (take l.k l.statuses);
}
