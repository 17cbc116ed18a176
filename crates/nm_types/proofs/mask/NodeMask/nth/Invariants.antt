use Rattle.std.proofs.Common.{◌≡◌, drop}
use Rattle.nm_types.proofs.mask.NodeMask.nth.Given as goal

abbrev pub invariant-loop : goal.invariant-loop
invariant-loop l = l.rest ≡ drop l.counter l.fn.self
