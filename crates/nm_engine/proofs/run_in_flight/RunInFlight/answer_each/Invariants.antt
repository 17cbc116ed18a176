use Rattle.std.proofs.Common.{◌≡◌, ◌+◌, ◌≤◌, ◌++◌, map, length}
use Rattle.std.specs.Prelude.{vec_capacity}
use Rattle.std.specs.List.{AllByRecursion}
use Rattle.nm_pool.specs.definitions.AfterCopy.{all_stored_after_copy, CanDo}
use Rattle.nm_pool.specs.views.Accesses.{answer_shown, pending_shown, HasRoom}
use Rattle.nm_engine.specs.views.Flights.{with_store}
use Rattle.nm_engine.proofs.run_in_flight.RunInFlight.answer_each.Given as goal

abbrev pub invariant-loop-due : goal.invariant-loop-due
invariant-loop-due g l =
    let place = l.self.spaces.place in
    let rest = map pending_shown l.due-iterator.rest.items in
    let all = all_stored_after_copy l.fn.self.spaces.place l.fn.self.frames.frames (map pending_shown l.fn.all_due.items) in record {
      due : AllByRecursion (CanDo place l.self.frames.frames) rest;
      room : AllByRecursion HasRoom l.due-iterator.rest.items;
      run : with_store l.self (all_stored_after_copy place l.self.frames.frames rest).store ≡ with_store l.fn.self all.store;
      answers : map answer_shown l.answers.items ++ (all_stored_after_copy place l.self.frames.frames rest).answers ≡ all.answers;
      space : length l.answers.items + length l.due-iterator.rest.items ≤ vec_capacity l.answers;
    }
