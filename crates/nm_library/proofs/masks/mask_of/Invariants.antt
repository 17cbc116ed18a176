use Rattle.std.proofs.Common.{◌≡◌, ◌%◌, ◌^◌}
use Rattle.nm_types.specs.Nodes.{members}
use Rattle.nm_library.proofs.masks.mask_of.Given as goal

abbrev pub invariant-loop-node : goal.invariant-loop-node
invariant-loop-node l = l.mask ≡ members (l.bits % 2 ^ l.node)
