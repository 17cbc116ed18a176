use Rattle.std.proofs.Common.{◌≡◌, ℕ, ◌%◌, Some, Ok, length, refl, ap, sym, ◌∙◌}
use Rattle.std.specs.Prelude.{Option, None, IsSome}
use Rattle.std.specs.List.{list_any}
use Rattle.nm_types.specs.Map.{same_page}
use Rattle.nm_types.specs.State.{State}
use Rattle.nm_model.specs.definitions.BeforeCopy.{BeforeCopy, Known, ToWrite}
use Rattle.nm_engine.specs.views.RunState.{RunState, with_state}
use Rattle.nm_engine.proofs.MidRun.Sites.{found_in}
use Rattle.nm_model.specs.definitions.Seen.{frame_seen}
use Rattle.nm_engine.proofs.InFlight.PendingAccesses.{write_due, write_goes, write_refused, write_held, write_turned_down}
use Rattle.nm_engine.proofs.Undo.Touches.{touches_err}
use Rattle.std.specs.Result.{result_err}
use Rattle.nm_model.specs.definitions.Touch.{is_held, Refused}
use Rattle.nm_engine.proofs.prepared_run.PreparedRun.write_early.Goals as goal

some_frame : (o : Option ℕ) → IsSome o → (f : ℕ) × (o ≡ Some f)
some_frame (Some f) some = (f, refl)
some_frame None some = cc

pub returns-in-Ok-touch_noted-clause-touched : goal.returns-in-Ok-touch_noted-clause-touched
returns-in-Ok-touch_noted-clause-touched g c =
    let there = found_in c.args.self.now.state c.self.inside.spaces.processes c.self.inside.spaces.areas c.in-Ok.resolved c.args.pid c.args.addr (length c.args.bytes.now) (ap (λ (x : RunState). x.state.processes) (sym c.self.view_is)) (ap (λ (x : RunState). x.state.areas) (sym c.self.view_is)) c.in-Ok.ensures.ok in
    let page : c.in-Ok.resolved.page ≡ _ = sym there.3.page in
    let free = ap (λ p. list_any (same_page p) c.args.moving.now.keys) there.3.page ∙ sym c.contains.ensures ∙ c.if-contains.false in
    let some = some_frame c.in-Ok-touch_noted.field-0 (c.in-Ok-touch_noted.ensures.some refl) in
    let seen = ap (λ (x : ℕ × ℕ). frame_seen c.touch_noted.new.self.state x.0 x.1) (λ i. (sym c.in-Ok.ensures.pid i, sym c.in-Ok.ensures.page i)) ∙ sym c.in-Ok-touch_noted.ensures.frame ∙ some.1 in
    let goes = write_goes c.args.self.now.state c.args.moving.now.keys c.args.pid c.args.addr c.args.bytes.now _ (Ok c.touch_noted.new.self.state) there.2 free (c.in-Ok-touch_noted.ensures.touches there.0 there.1 there.3) in
    record {
      touched = c.in-Ok-touch_noted.ensures.same ∙ ap (with_state c.args.self.now) (sym (ap (λ (e : BeforeCopy). e.state) goes));
      due =
          ap (λ n. ToWrite c.in-Ok.resolved.page n c.args.bytes.now) c.offset.ensures.value
          ∙ ap (λ p. ToWrite p (c.args.addr % 4096) c.args.bytes.now) page
          ∙ sym (write_due c.args.self.now.state c.touch_noted.new.self.state c.args.self.now.left c.args.moving.now.keys c.args.pid c.args.addr some.0 _ c.in-Ok-touch_noted.ensures.sound free seen c.args.bytes.now there.2
          (c.in-Ok-touch_noted.ensures.touches there.0 there.1 there.3));
      room = tt;
    }

pub returns-in-Err-clause-touched : goal.returns-in-Err-clause-touched
returns-in-Err-clause-touched g c =
    record {
      touched = ap (with_state c.args.self.now) (sym (ap (λ (e : BeforeCopy). e.state) (write_refused c.args.self.now.state c.args.moving.now.keys c.args.pid c.args.addr c.args.bytes.now c.in-Err.error (c.in-Err.ensures.err c.args.self.now.state (ap (λ (x : RunState). x.state.processes) (sym c.self.view_is)) (ap (λ (x : RunState). x.state.areas) (sym c.self.view_is))))));
      due =
          sym (ap (λ (e : BeforeCopy). e.due) (write_refused c.args.self.now.state c.args.moving.now.keys c.args.pid c.args.addr c.args.bytes.now c.in-Err.error (c.in-Err.ensures.err c.args.self.now.state (ap (λ (x : RunState). x.state.processes) (sym c.self.view_is)) (ap (λ (x : RunState). x.state.areas) (sym c.self.view_is)))));
      room = tt;
    }

pub returns-then-contains-clause-touched : goal.returns-then-contains-clause-touched
returns-then-contains-clause-touched g c =
    let there = found_in c.args.self.now.state c.self.inside.spaces.processes c.self.inside.spaces.areas c.in-Ok.resolved c.args.pid c.args.addr (length c.args.bytes.now) (ap (λ (x : RunState). x.state.processes) (sym c.self.view_is)) (ap (λ (x : RunState). x.state.areas) (sym c.self.view_is)) c.in-Ok.ensures.ok in
    let held = ap (λ p. list_any (same_page p) c.args.moving.now.keys) there.3.page ∙ sym c.contains.ensures ∙ c.if-contains.true in
    record {
      touched = ap (with_state c.args.self.now) (sym (ap (λ (e : BeforeCopy). e.state) (write_held c.args.self.now.state c.args.moving.now.keys c.args.pid c.args.addr c.args.bytes.now _ there.2 held)));
      due =
          sym (ap (λ (e : BeforeCopy). e.due) (write_held c.args.self.now.state c.args.moving.now.keys c.args.pid c.args.addr c.args.bytes.now _ there.2 held));
      room = tt;
    }

pub returns-in-Err-Refused-clause-touched : goal.returns-in-Err-Refused-clause-touched
returns-in-Err-Refused-clause-touched g c =
    let there = found_in c.args.self.now.state c.self.inside.spaces.processes c.self.inside.spaces.areas c.in-Ok.resolved c.args.pid c.args.addr (length c.args.bytes.now) (ap (λ (x : RunState). x.state.processes) (sym c.self.view_is)) (ap (λ (x : RunState). x.state.areas) (sym c.self.view_is)) c.in-Ok.ensures.ok in
    let free = ap (λ p. list_any (same_page p) c.args.moving.now.keys) there.3.page ∙ sym c.contains.ensures ∙ c.if-contains.false in
    let goes = write_turned_down c.args.self.now.state c.args.moving.now.keys c.touch_noted.new.self.state c.args.pid c.args.addr c.args.bytes.now _ c.in-Err-Refused.field-0 c.in-Err-Refused.error there.2 free c.in-Err-Refused.field-0-is (c.in-Err-Refused.ensures.touches there.0 there.1 there.3) in
    record {
      touched = c.in-Err-Refused.ensures.same ∙ ap (with_state c.args.self.now) (goes.0 ∙ sym (ap (λ (e : BeforeCopy). e.state) goes.1));
      due =
          ap (λ e. Known (Refused e)) c.in-Err-Refused.error-is ∙ sym (ap (λ (e : BeforeCopy). e.due) goes.1);
      room = tt;
    }

pub returns-in-Err-HostMemory-clause-err : goal.returns-in-Err-HostMemory-clause-err
returns-in-Err-HostMemory-clause-err g c =
    let there = found_in c.args.self.now.state c.self.inside.spaces.processes c.self.inside.spaces.areas c.in-Ok.resolved c.args.pid c.args.addr (length c.args.bytes.now) (ap (λ (x : RunState). x.state.processes) (sym c.self.view_is)) (ap (λ (x : RunState). x.state.areas) (sym c.self.view_is)) c.in-Ok.ensures.ok in
    c.in-Err-HostMemory.ensures.same ∙ ap (λ (s : State). with_state c.args.self.now s) (touches_err c.in-Err-HostMemory.field-0 c.args.self.now.state c.touch_noted.new.self.state _ (c.in-Err-HostMemory.ensures.touches there.0 there.1 there.3))

pub returns-in-Err-HostMemory-clause-allocates : goal.returns-in-Err-HostMemory-clause-allocates
returns-in-Err-HostMemory-clause-allocates g c =
    let there = found_in c.args.self.now.state c.self.inside.spaces.processes c.self.inside.spaces.areas c.in-Ok.resolved c.args.pid c.args.addr (length c.args.bytes.now) (ap (λ (x : RunState). x.state.processes) (sym c.self.view_is)) (ap (λ (x : RunState). x.state.areas) (sym c.self.view_is)) c.in-Ok.ensures.ok in
    let free = ap (λ p. list_any (same_page p) c.args.moving.now.keys) there.3.page ∙ sym c.contains.ensures ∙ c.if-contains.false in
    (ap result_err there.2, ap (is_held c.args.moving.now.keys) there.2 ∙ free)

pub touch_noted-requires : goal.touch_noted-requires
touch_noted-requires g c = let there = found_in c.args.self.now.state c.self.inside.spaces.processes c.self.inside.spaces.areas c.in-Ok.resolved c.args.pid c.args.addr (length c.args.bytes.now) (ap (λ (x : RunState). x.state.processes) (sym c.self.view_is)) (ap (λ (x : RunState). x.state.areas) (sym c.self.view_is)) c.in-Ok.ensures.ok in (there.0, there.1, there.3)

pub returns-in-Ok-touch_noted-clause-back : goal.returns-in-Ok-touch_noted-clause-back
returns-in-Ok-touch_noted-clause-back g c = c.in-Ok-touch_noted.ensures.back

pub returns-in-Err-Refused-clause-back : goal.returns-in-Err-Refused-clause-back
returns-in-Err-Refused-clause-back g c = c.in-Err-Refused.ensures.back

pub returns-in-Err-HostMemory-clause-back : goal.returns-in-Err-HostMemory-clause-back
returns-in-Err-HostMemory-clause-back g c = c.in-Err-HostMemory.ensures.back

pub returns-then-contains-clause-back : goal.returns-then-contains-clause-back
returns-then-contains-clause-back g c can = (can, refl)

pub returns-in-Err-clause-back : goal.returns-in-Err-clause-back
returns-in-Err-clause-back g c can = (can, refl)
