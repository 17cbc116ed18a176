use Rattle.std.proofs.Common.{◌≡◌, ℕ, ◌&&◌, nat_lt}
use Rattle.nm_types.specs.Nodes.{is_in}
use Rattle.nm_model.specs.definitions.Touch.{has_free}
use Rattle.nm_pool.proofs.frames.FramePool.free_nodes.Given as goal

abbrev pub invariant-loop-number : goal.invariant-loop-number
invariant-loop-number g l = (node : ℕ) → is_in l.nodes node ≡ (nat_lt node l.number && has_free l.self.free node)
