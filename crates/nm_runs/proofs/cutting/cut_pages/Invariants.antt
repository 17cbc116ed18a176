use Rattle.std.proofs.Common.{length, drop, ◌-◌, ◌≡◌, ◌≤◌, ◌++◌}
use Rattle.nm_runs.specs.Stretches.{stretches_of}
use Rattle.nm_model.specs.definitions.Cut.{cut_within, requests_of}
use Rattle.nm_runs.proofs.cutting.cut_pages.Given as goal

abbrev pub invariant-loop-done : goal.invariant-loop-done
invariant-loop-done g l = record {
  within : l.done ≤ length l.nodes;
  made : stretches_of l.cut.items ++ cut_within l.fn.limit (drop l.done (requests_of l.fn.pid l.fn.all l.pages l.nodes)) ≡ cut_within l.fn.limit (requests_of l.fn.pid l.fn.all l.pages l.nodes);
}

abbrev pub decreases-loop-done : goal.decreases-loop-done
decreases-loop-done g l = length l.nodes - l.done
