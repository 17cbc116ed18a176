use Rattle.std.proofs.Common.{◌≡◌, ℕ, ◌<◌, get_or, drop}
use Rattle.nm_runs.specs.Targets.{first_refusal}
use Rattle.nm_runs.proofs.check.check_batch.Given as goal

abbrev pub invariant-loop-node : goal.invariant-loop-node
invariant-loop-node l = record {
  nodes : (k : ℕ) → k < l.node-index → get_or l.nodes k 0 < l.count;
  exact : first_refusal l.count l.online l.allowed (drop l.node-index l.nodes) ≡ first_refusal l.count l.online l.allowed l.nodes;
}
