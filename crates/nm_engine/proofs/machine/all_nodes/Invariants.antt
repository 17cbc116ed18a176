use Rattle.std.proofs.Common.{◌≡◌}
use Rattle.nm_types.specs.Nodes.{up_from}
use Rattle.nm_engine.proofs.machine.all_nodes.Given as goal

abbrev pub invariant-loop-node : goal.invariant-loop-node
invariant-loop-node l = l.nodes ≡ up_from 0 l.node
