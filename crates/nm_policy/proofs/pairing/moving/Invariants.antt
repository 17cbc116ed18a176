use Rattle.std.proofs.Common.{◌≡◌, ◌+◌, ◌++◌, not, length}
use Rattle.std.specs.List.{filter}
use Rattle.nm_policy.specs.definitions.Pairs.{pairs_from_turn, stays}
use Rattle.nm_policy.proofs.pairing.moving.Given as goal

abbrev pub invariant-loop-from : goal.invariant-loop-from
invariant-loop-from g l = record {
  counted : l.index + length l.rest ≡ length l.old;
  made : l.pairs.items ++ filter (λ p. not (stays l.old l.new p)) (pairs_from_turn l.index l.rest l.new) ≡ filter (λ p. not (stays l.old l.new p)) (pairs_from_turn 0 l.old l.new);
}

abbrev pub decreases-loop-from : goal.decreases-loop-from
decreases-loop-from g l = length l.rest
