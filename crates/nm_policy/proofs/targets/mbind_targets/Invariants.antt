use Rattle.std.proofs.Common.{◌≡◌, take}
use Rattle.std.specs.List.{flat_map}
use Rattle.nm_policy.specs.definitions.Turns.{sent_to}
use Rattle.nm_policy.proofs.targets.mbind_targets.Given as goal

abbrev pub invariant-loop-node : goal.invariant-loop-node
invariant-loop-node g l = l.targets.items ≡ flat_map (sent_to l.dealt.items) (take l.node-index l.node-items)
