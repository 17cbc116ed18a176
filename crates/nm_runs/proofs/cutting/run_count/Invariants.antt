use Rattle.std.proofs.Common.{length, drop, ◌-◌, ◌+◌, ◌≡◌, ◌≤◌}
use Rattle.nm_model.specs.definitions.Cut.{run_count}
use Rattle.nm_runs.proofs.cutting.run_count.Given as goal

abbrev pub invariant-loop-at : goal.invariant-loop-at
invariant-loop-at l = record {
  within : l.at ≤ length l.nodes;
  few : l.count ≤ l.at;
  counted : l.count + run_count l.fn.limit (drop l.at l.nodes) ≡ run_count l.fn.limit l.nodes;
}

abbrev pub decreases-loop-at : goal.decreases-loop-at
decreases-loop-at l = length l.nodes - l.at
