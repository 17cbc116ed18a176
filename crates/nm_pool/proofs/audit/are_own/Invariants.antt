use Rattle.std.proofs.Common.{◌≡◌, drop}
use Rattle.std.specs.List.{list_all}
use Rattle.nm_model.specs.definitions.Sound.{is_on_its_node}
use Rattle.nm_pool.proofs.audit.are_own.Given as goal

abbrev pub invariant-loop-node : goal.invariant-loop-node
invariant-loop-node g l = list_all (is_on_its_node l.geometry) (drop l.node-index l.free) ≡ list_all (is_on_its_node l.geometry) l.free
