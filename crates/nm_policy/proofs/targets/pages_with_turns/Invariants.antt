use Rattle.std.proofs.Common.{◌≡◌, map, take}
use Rattle.nm_policy.specs.definitions.Turns.{with_turn}
use Rattle.nm_policy.proofs.targets.pages_with_turns.Given as goal

abbrev pub invariant-loop-found : goal.invariant-loop-found
invariant-loop-found g l = l.dealt.items ≡ map (with_turn l.nodes) (take l.found-index l.pages)
