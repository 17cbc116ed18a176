use Rattle.std.proofs.Common.{◌≡◌, length}
use Rattle.std.specs.Prelude.{vec_capacity}
use Rattle.nm_engine.specs.views.RunState.{with_state}
use Rattle.nm_engine.specs.definitions.Undo.{CanUndo, all_undone}
use Rattle.nm_engine.proofs.prepared_run.PreparedRun.take_back.Given as goal

abbrev pub invariant-loop-undo : goal.invariant-loop-undo
invariant-loop-undo g l = record {
  can : CanUndo l.self.state l.self.left l.undos.items;
  back : with_state l.self (all_undone l.self.state l.undos.items) ≡ with_state l.fn.self (all_undone l.fn.self.state l.fn.undos.items);
  room : vec_capacity l.undos ≡ vec_capacity l.fn.undos;
}

abbrev pub decreases-loop-undo : goal.decreases-loop-undo
decreases-loop-undo g l = length l.undos.items
