use Rattle.std.proofs.Common.{◌≡◌, ◌++◌, take}
use Rattle.nm_policy.specs.definitions.Turns.{sent_to}
use Rattle.nm_policy.proofs.targets.append_for.Given as goal

abbrev pub invariant-loop-sent : goal.invariant-loop-sent
invariant-loop-sent g l = l.targets.items ≡ l.fn.targets.items ++ sent_to (take l.sent-index l.dealt) l.node
