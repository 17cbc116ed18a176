use Rattle.std.proofs.Common.{◌≡◌, ◌≤◌, ◌++◌, map, length, drop}
use Rattle.std.specs.Prelude.{vec_capacity}
use Rattle.std.specs.List.{AllByRecursion}
use Rattle.nm_model.specs.views.Asked.{access_shown}
use Rattle.nm_pool.specs.views.Accesses.{pending_shown, HasRoom}
use Rattle.nm_model.specs.definitions.BeforeCopy.{AllBeforeCopy, all_before_copy}
use Rattle.nm_engine.specs.views.RunState.{with_state}
use Rattle.nm_engine.specs.definitions.Undo.{CanUndo, all_undone}
use Rattle.nm_engine.proofs.prepared_run.PreparedRun.touch_each.Given as goal

abbrev pub invariant-loop-access : goal.invariant-loop-access
invariant-loop-access g l =
    let rest : AllBeforeCopy = all_before_copy l.self.state l.moving.keys (map (λ a. access_shown a.now) (drop l.access-index l.accesses)) in
    let all : AllBeforeCopy = all_before_copy l.fn.self.state l.moving.keys (map (λ a. access_shown a.now) l.accesses) in record {
      state : rest.state ≡ all.state;
      all_due : map pending_shown l.all_due.items ++ rest.all_due ≡ all.all_due;
      room : AllByRecursion HasRoom l.all_due.items;
      len : length l.all_due.items ≡ l.access-index;
      within : l.access-index ≤ length l.accesses;
      fits : length l.accesses ≤ vec_capacity l.all_due;
      same : l.self ≡ with_state l.fn.self l.self.state;
      back : CanUndo l.self.state l.fn.self.left l.undos.items × (all_undone l.self.state l.undos.items ≡ l.fn.self.state);
    }
