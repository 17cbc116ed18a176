use Rattle.std.proofs.Common.{◌≡◌, ◌∷◌, length}
use Rattle.nm_calls.specs.definitions.Maps.{stretches}
use Rattle.nm_calls.proofs.Lines.ConsecutiveNodes.{extended}
use Rattle.nm_calls.proofs.maps.take_stretch.Given as goal

abbrev pub invariant-loop-next : goal.invariant-loop-next
invariant-loop-next l = stretches (l.fn.first ∷ l.fn.rest) ≡ extended l.fn.first (stretches (l.last ∷ l.rest))

abbrev pub decreases-loop-next : goal.decreases-loop-next
decreases-loop-next l = length l.rest
