use Rattle.std.proofs.Common.{◌≡◌, ◌+◌, ◌<◌, sum, take, drop}
use Rattle.nm_types.specs.Layout.{owner}
use Rattle.nm_types.proofs.geometry.Geometry.node_of.Given as goal

abbrev pub invariant-loop-node : goal.invariant-loop-node
invariant-loop-node g l = record {
  same : l.size-items ≡ l.self.sizes;
  before : l.rest + sum (take l.node l.self.sizes) ≡ l.fn.frame;
  owned : l.node + owner (drop l.node l.self.sizes) l.rest ≡ owner l.self.sizes l.fn.frame;
  later : l.rest < sum (drop l.node l.self.sizes);
}
