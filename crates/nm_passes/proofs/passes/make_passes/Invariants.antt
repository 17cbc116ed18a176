use Rattle.std.proofs.Common.{◌≡◌, ◌≤◌, ◌*◌, ◌^◌, drop, length}
use Rattle.nm_types.specs.Layout.{node_count}
use Rattle.nm_passes.specs.definitions.Passes.{passes}
use Rattle.nm_passes.specs.views.Runs.{IsLeft}
use Rattle.nm_model.specs.definitions.Run.{HasOneAll}
use Rattle.nm_passes.proofs.NodesInTurn.Passes.{HavePassed}
use Rattle.nm_passes.proofs.passes.make_passes.Given as goal

abbrev pub invariant-loop-node : goal.invariant-loop-node
invariant-loop-node g l = record {
  nodes : node_count l.machine.layout ≡ node_count l.fn.machine.layout;
  alike : HasOneAll l.left.wanted.items;
  few : length l.left.wanted.items ≤ 2 ^ 52;
  fewer : length l.left.wanted.items ≤ length l.fn.wanted.items;
  counted : l.made ≤ l.node-index * 2 ^ 52;
  passed : HavePassed l.fn.machine (passes l.limit l.fn.machine l.nodes l.fn.wanted.items) (passes l.limit l.machine (drop l.node-index l.nodes) l.left.wanted.items) l.machine l.made;
  left : IsLeft l.machine l.left;
}
