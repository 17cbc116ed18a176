use Rattle.std.proofs.Common.{◌≡◌, ◌++◌, length}
use Rattle.nm_policy.proofs.targets.nodes_of.Given as goal

abbrev pub invariant-loop-node : goal.invariant-loop-node
invariant-loop-node g l = l.nodes.items ++ l.rest ≡ l.fn.set

abbrev pub decreases-loop-node : goal.decreases-loop-node
decreases-loop-node g l = length l.rest
