use Rattle.std.proofs.Common.{◌≡◌, take}
use Rattle.nm_calls.specs.definitions.Outcome.{statuses_of}
use Rattle.nm_calls.proofs.status.statuses_of.Given as goal

abbrev pub invariant-loop-address : goal.invariant-loop-address
invariant-loop-address g l = l.statuses.items ≡ statuses_of l.machine l.pid (take l.address-index l.pages)
