use Rattle.std.proofs.Common.{◌≡◌, ◌++◌, ◌≤◌, ◌+◌, ◌-◌, take, drop}
use Rattle.std.specs.Prelude.{vec_len, vec_capacity}
use Rattle.std.specs.VecDeque.{deque_capacity}
use Rattle.nm_nodes.proofs.list.take_front.Given as goal

abbrev pub invariant-loop : goal.invariant-loop
invariant-loop g l = record {
  taken : l.taken.items ≡ l.fn.taken.items ++ take l.counter l.fn.frames.items;
  rest : l.frames.items ≡ drop l.counter l.fn.frames.items;
  room : vec_len l.taken + (l.count - l.counter) ≤ vec_capacity l.taken;
  capacity : deque_capacity l.frames ≡ deque_capacity l.fn.frames;
  taken_capacity : vec_capacity l.taken ≡ vec_capacity l.fn.taken;
}
