use Rattle.std.proofs.Common.{◌≡◌, ◌+◌, ◌<◌, sum, drop}
use Rattle.nm_types.specs.Layout.{owner}
use Rattle.nm_nodes.specs.Lists.{sizes_of}
use Rattle.nm_nodes.proofs.pool.owner_of.Given as goal

abbrev pub invariant-loop-node : goal.invariant-loop-node
invariant-loop-node g l = record {
  owned : l.node + owner (sizes_of (drop l.node l.lists)) l.rest ≡ owner (sizes_of l.lists) l.fn.frame;
  later : l.rest < sum (sizes_of (drop l.node l.lists));
}
