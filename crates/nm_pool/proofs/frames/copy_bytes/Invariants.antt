use Rattle.std.proofs.Common.{◌≡◌, ◌+◌, ◌-◌, ◌≤◌, ◌++◌, vec_len, vec_capacity}
use Rattle.nm_model.specs.definitions.Frames.{bytes_of}
use Rattle.nm_model.specs.definitions.Memory.{stretch_of}
use Rattle.nm_pool.specs.views.Frames.{in_memory}
use Rattle.nm_pool.proofs.frames.copy_bytes.Given as goal

abbrev pub invariant-loop-k : goal.invariant-loop-k
invariant-loop-k g l = record {
  copied : l.bytes.items ++ stretch_of (bytes_of (in_memory l.frames) l.frame) l.k (l.k-end - l.k) ≡ l.fn.bytes.items ++ stretch_of (bytes_of (in_memory l.frames) l.frame) l.at l.len;
  end : l.k-end ≡ l.at + l.len;
  room : vec_len l.bytes + (l.k-end - l.k) ≤ vec_capacity l.bytes;
}
