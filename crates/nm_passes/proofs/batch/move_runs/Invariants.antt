use Rattle.std.proofs.Common.{◌≡◌, ◌+◌, ◌≤◌, drop, length, map, vec_capacity}
use Rattle.std.specs.List.{sum_by}
use Rattle.nm_types.specs.Layout.{node_count}
use Rattle.nm_runs.specs.Stretches.{stretches_of}
use Rattle.nm_model.specs.definitions.Run.{failures}
use Rattle.nm_requests.specs.Views.{shown_during}
use Rattle.nm_passes.specs.definitions.Batch.{left_shown}
use Rattle.nm_passes.proofs.Batches.Progress.{HaveRun}
use Rattle.nm_passes.proofs.batch.move_runs.Given as goal

abbrev pub invariant-loop-k : goal.invariant-loop-k
invariant-loop-k g l = record {
  room : length l.statuses.items + sum_by (λ run. length run.wanted.items) (drop l.k l.runs) ≤ vec_capacity l.statuses;
  queues : length l.answers_left.items ≡ l.k;
  places : length l.runs ≤ vec_capacity l.answers_left;
  nodes : node_count l.machine.layout ≡ node_count l.fn.machine.layout;
  failed : l.failed ≡ failures l.statuses.items;
  made : HaveRun l.fn.machine (stretches_of l.runs) (stretches_of (drop l.k l.runs)) (shown_during l.during) l.k l.machine l.statuses.items (map left_shown l.answers_left.items);
}
