use Rattle.std.proofs.Common.{List, ap, sym, subst, ◌∙◌}
use Rattle.nm_engine.specs.declared.prepared_run.undo.Undo.{Undo}
use Rattle.nm_engine.specs.views.RunState.{RunState, with_state}
use Rattle.nm_engine.specs.definitions.Undo.{CanUndo, all_undone}
use Rattle.nm_engine.proofs.Undo.Touches.{all_undone-push, can_pop}
use Rattle.nm_engine.proofs.prepared_run.PreparedRun.take_back.Goals as goal

pub undo-requires : goal.undo-requires
undo-requires g c =
    (can_pop c.loop-undo.self.state c.loop-undo.self.left c.pop.new.self.items c.in-Some.undo
    (subst (λ (us : List Undo). CanUndo c.loop-undo.self.state c.loop-undo.self.left us) c.in-Some.ensures.items c.loop-undo.invariant.can)).0

pub loop-undo-preserved : goal.loop-undo-preserved
loop-undo-preserved g c =
    let s = c.loop-undo.self in
    let rest : List Undo = c.pop.new.self.items in
    let can = subst (λ (us : List Undo). CanUndo s.state s.left us) c.in-Some.ensures.items c.loop-undo.invariant.can in
    let popped = can_pop s.state s.left rest c.in-Some.undo can in
    record {
      can = subst (λ (x : RunState). CanUndo x.state x.left rest) (sym c.undo.ensures) popped.1;
      back = ap (λ (x : RunState). with_state x (all_undone x.state rest)) c.undo.ensures
          ∙ ap (with_state s) (sym (all_undone-push s.state rest c.in-Some.undo))
          ∙ ap (λ (us : List Undo). with_state s (all_undone s.state us)) (sym c.in-Some.ensures.items)
          ∙ c.loop-undo.invariant.back;
      room = c.in-Some.ensures.capacity ∙ c.loop-undo.invariant.room;
    }
