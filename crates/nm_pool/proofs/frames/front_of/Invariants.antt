use Rattle.std.proofs.Common.{◌≡◌, ◌≤◌, length, take, vec_len, vec_capacity}
use Rattle.nm_model.specs.definitions.Frames.{list_of}
use Rattle.nm_pool.proofs.frames.front_of.Given as goal

abbrev pub invariant-loop-k : goal.invariant-loop-k
invariant-loop-k g l = record {
  copied : l.frames.items ≡ take l.k (list_of l.nodes l.node);
  count : l.count ≤ length (list_of l.nodes l.node);
  at : vec_len l.frames ≡ l.k;
  room : l.count ≤ vec_capacity l.frames;
}
