use Rattle.std.proofs.Common.{◌≡◌, sum, take}
use Rattle.nm_nodes.proofs.Pools.{rows}
use Rattle.nm_nodes.proofs.pool.NodePool.new.Given as goal

abbrev pub invariant-loop-node : goal.invariant-loop-node
invariant-loop-node g l = record {
  made : l.lists.items ≡ rows 0 (take l.node l.geometry.sizes);
  next : l.first ≡ sum (take l.node l.geometry.sizes);
}
