use Rattle.std.proofs.Common.{◌≡◌, ◌-◌, ◌≤◌}
use Rattle.std.specs.VecDeque.{deque_capacity}
use Rattle.nm_types.specs.Nodes.{up_from}
use Rattle.nm_nodes.proofs.list.FreeList.upwards.Given as goal

abbrev pub invariant-loop-number : goal.invariant-loop-number
invariant-loop-number g l = record {
  up : l.frames.items ≡ up_from l.first (l.number - l.first);
  room : l.size ≤ deque_capacity l.frames;
}
