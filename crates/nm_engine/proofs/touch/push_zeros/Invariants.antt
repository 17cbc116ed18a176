use Rattle.std.proofs.Common.{◌≡◌, ◌++◌, replicate, vec_capacity}
use Rattle.nm_engine.proofs.touch.push_zeros.Given as goal

abbrev pub invariant-loop : goal.invariant-loop
invariant-loop g l = record {
  items : l.bytes.items ≡ l.fn.bytes.items ++ replicate l.counter 0;
  room : vec_capacity l.bytes ≡ vec_capacity l.fn.bytes;
}
