use Rattle.std.proofs.Common.{length, drop, ◌-◌, ◌≡◌, ◌≤◌, ◌++◌}
use Rattle.nm_runs.specs.Stretches.{stretches_of}
use Rattle.nm_model.specs.definitions.Cut.{cut_within}
use Rattle.nm_passes.specs.definitions.Placement.{each_to}
use Rattle.nm_passes.proofs.turns.cut_sent.Given as goal

abbrev pub invariant-loop-at : goal.invariant-loop-at
invariant-loop-at g l = record {
  within : l.at ≤ length l.sent;
  made : stretches_of l.runs.items ++ cut_within l.fn.limit (drop l.at (each_to l.fn.pid l.fn.all l.sent)) ≡ cut_within l.fn.limit (each_to l.fn.pid l.fn.all l.sent);
}

abbrev pub decreases-loop-at : goal.decreases-loop-at
decreases-loop-at g l = length l.sent - l.at
