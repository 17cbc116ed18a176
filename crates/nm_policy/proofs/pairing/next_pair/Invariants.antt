use Rattle.std.proofs.Common.{◌≡◌, not, drop}
use Rattle.std.specs.Prelude.{find}
use Rattle.nm_types.specs.Nodes.{is_in}
use Rattle.nm_policy.proofs.pairing.next_pair.Given as goal

abbrev pub invariant-loop-pair : goal.invariant-loop-pair
invariant-loop-pair l = find (λ p. not (is_in l.remaining p.to)) (drop l.pair-index l.pairs) ≡ find (λ p. not (is_in l.remaining p.to)) l.pairs
