use Rattle.std.proofs.Common.{◌≡◌, ◌++◌, drop}
use Rattle.nm_model.specs.definitions.Sound.{with_numbers}
use Rattle.nm_pool.proofs.audit.free_frames.Given as goal

abbrev pub invariant-loop-node : goal.invariant-loop-node
invariant-loop-node g l = l.free.items ++ with_numbers l.node (drop l.node l.nodes.lists) ≡ with_numbers 0 l.nodes.lists
