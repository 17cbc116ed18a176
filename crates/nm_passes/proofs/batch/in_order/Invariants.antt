use Rattle.std.proofs.Common.{◌≡◌, ◌+◌, ◌++◌, ◌≤◌, drop, length, map, vec_capacity}
use Rattle.nm_pool.specs.views.Accesses.{answer_shown}
use Rattle.nm_requests.specs.Views.{shown_during}
use Rattle.std.specs.Map.{keys_of}
use Rattle.nm_passes.specs.definitions.Batch.{answers_in_order, left_shown}
use Rattle.nm_passes.proofs.batch.in_order.Given as goal

abbrev pub invariant-loop-asked : goal.invariant-loop-asked
invariant-loop-asked g l = record {
  room : length l.answers.items + length (drop l.asked-index l.during) ≤ vec_capacity l.answers;
  given : map answer_shown l.answers.items ++ answers_in_order (keys_of (shown_during (drop l.asked-index l.during))) (map left_shown l.answers_left.items) ≡ answers_in_order (keys_of (shown_during l.during)) (map left_shown l.fn.answers_left.items);
}
