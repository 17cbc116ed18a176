use Rattle.std.proofs.Common.{◌≡◌, ℕ, List, Ok, ◌++◌, ◌%◌, refl, ap, sym, subst, ◌∙◌, arith}
use Rattle.std.specs.Prelude.{Option, Some, IfNone, replicate}
use Rattle.std.specs.List.{list_any}
use Rattle.nm_types.specs.declared.sight.Sight.TheVariants.{ZeroPage}
use Rattle.nm_types.specs.Map.{same_page}
use Rattle.nm_types.specs.State.{State}
use Rattle.nm_model.specs.definitions.Seen.{sight_at}
use Rattle.nm_model.specs.definitions.BeforeCopy.{BeforeCopy, Known, ToRead, pending_read}
use Rattle.nm_model.specs.definitions.Touch.{Bytes, Refused}
use Rattle.nm_engine.specs.views.RunState.{RunState, with_state}
use Rattle.nm_engine.proofs.MidRun.Sites.{found_in}
use Rattle.nm_model.specs.definitions.Seen.{frame_seen}
use Rattle.nm_engine.proofs.InFlight.PendingAccesses.{read_due, read_refused, read_held, read_goes, read_turned_down}
use Rattle.nm_engine.proofs.Undo.Touches.{touches_err}
use Rattle.std.specs.Result.{result_err}
use Rattle.nm_model.specs.definitions.Touch.{is_held}
use Rattle.nm_areas.proofs.Counted.{err_always}
use Rattle.nm_engine.proofs.prepared_run.PreparedRun.read_early.Goals as goal

pub returns-in-Ok-Some-clause-touched : goal.returns-in-Ok-Some-clause-touched
returns-in-Ok-Some-clause-touched g c =
    let there = found_in c.args.self.now.state c.self.inside.spaces.processes c.self.inside.spaces.areas c.in-Ok.resolved c.args.pid c.args.addr c.args.len (ap (λ (x : RunState). x.state.processes) (sym c.self.view_is)) (ap (λ (x : RunState). x.state.areas) (sym c.self.view_is)) c.in-Ok.ensures.ok in
    let page : c.in-Ok.resolved.page ≡ _ = sym there.3.page in
    let free = ap (λ p. list_any (same_page p) c.args.moving.now.keys) there.3.page ∙ sym c.contains.ensures ∙ c.if-contains.false in
    let seen = ap (λ (x : ℕ × ℕ). frame_seen c.touch_noted.new.self.state x.0 x.1) (λ i. (sym c.in-Ok.ensures.pid i, sym c.in-Ok.ensures.page i)) ∙ sym c.in-Ok-Some.ensures.frame ∙ c.in-Ok-Some.field-0-is in
    let goes = read_goes c.args.self.now.state c.args.moving.now.keys c.args.pid c.args.addr c.args.len _ (Ok c.touch_noted.new.self.state) there.2 free (c.in-Ok-Some.ensures.touches there.0 there.1 there.3) in
    record {
      touched = c.in-Ok-Some.ensures.same ∙ ap (with_state c.args.self.now) (sym (ap (λ (e : BeforeCopy). e.state) goes));
      due =
          ap (λ n. ToRead c.in-Ok.resolved.page n c.args.len) c.offset.ensures.value ∙ ap (λ p. ToRead p (c.args.addr % 4096) c.args.len) page
          ∙ sym (read_due c.args.self.now.state c.touch_noted.new.self.state c.args.self.now.left c.args.moving.now.keys c.args.pid c.args.addr c.in-Ok-Some.field-0-0 _ c.in-Ok-Some.ensures.sound free seen c.args.len there.2
          (c.in-Ok-Some.ensures.touches there.0 there.1 there.3));
      room = (c.in_ok-bytes.ensures.items, c.in_ok-bytes.ensures.capacity);
    }

pub returns-in-Ok-None-clause-touched : goal.returns-in-Ok-None-clause-touched
returns-in-Ok-None-clause-touched g c =
    let there = found_in c.args.self.now.state c.self.inside.spaces.processes c.self.inside.spaces.areas c.in-Ok.resolved c.args.pid c.args.addr c.args.len (ap (λ (x : RunState). x.state.processes) (sym c.self.view_is)) (ap (λ (x : RunState). x.state.areas) (sym c.self.view_is)) c.in-Ok.ensures.ok in
    let new = c.touch_noted.new.self.state in
    let at = c.args.addr % 4096 in
    let free = ap (λ p. list_any (same_page p) c.args.moving.now.keys) there.3.page ∙ sym c.contains.ensures ∙ c.if-contains.false in
    let goes = read_goes c.args.self.now.state c.args.moving.now.keys c.args.pid c.args.addr c.args.len _ (Ok new) there.2 free (c.in-Ok-None.ensures.touches there.0 there.1 there.3) in
    let seen = subst (λ (o : Option ℕ). IfNone o (sight_at new c.in-Ok.resolved.pid c.in-Ok.resolved.vpn ≡ Some ZeroPage)) c.in-Ok-None.field-0-is c.in-Ok-None.ensures.zeros in
    let zeros = ap (λ (x : ℕ × ℕ). sight_at new x.0 x.1) (λ i. (sym c.in-Ok.ensures.pid i, sym c.in-Ok.ensures.page i)) ∙ seen in
    let told = c.push_zeros.ensures ∙ ap (λ (bs : List ℕ). bs ++ replicate c.args.len 0) c.in_ok-bytes.ensures.items in
    record {
      touched = c.in-Ok-None.ensures.same ∙ ap (with_state c.args.self.now) (sym (ap (λ (e : BeforeCopy). e.state) goes));
      due =
          ap (λ bs. Known (Bytes bs)) told ∙ sym (ap (λ (e : BeforeCopy). e.due) goes ∙ ap (λ o. pending_read o at c.args.len) zeros);
      room = tt;
    }

pub returns-in-Err-clause-touched : goal.returns-in-Err-clause-touched
returns-in-Err-clause-touched g c =
    record {
      touched = ap (with_state c.args.self.now) (sym (ap (λ (e : BeforeCopy). e.state) (read_refused c.args.self.now.state c.args.moving.now.keys c.args.pid c.args.addr c.args.len c.in-Err.error (c.in-Err.ensures.err c.args.self.now.state (ap (λ (x : RunState). x.state.processes) (sym c.self.view_is)) (ap (λ (x : RunState). x.state.areas) (sym c.self.view_is))))));
      due =
          sym (ap (λ (e : BeforeCopy). e.due) (read_refused c.args.self.now.state c.args.moving.now.keys c.args.pid c.args.addr c.args.len c.in-Err.error (c.in-Err.ensures.err c.args.self.now.state (ap (λ (x : RunState). x.state.processes) (sym c.self.view_is)) (ap (λ (x : RunState). x.state.areas) (sym c.self.view_is)))));
      room = tt;
    }

pub returns-then-contains-clause-touched : goal.returns-then-contains-clause-touched
returns-then-contains-clause-touched g c =
    let there = found_in c.args.self.now.state c.self.inside.spaces.processes c.self.inside.spaces.areas c.in-Ok.resolved c.args.pid c.args.addr c.args.len (ap (λ (x : RunState). x.state.processes) (sym c.self.view_is)) (ap (λ (x : RunState). x.state.areas) (sym c.self.view_is)) c.in-Ok.ensures.ok in
    let held = ap (λ p. list_any (same_page p) c.args.moving.now.keys) there.3.page ∙ sym c.contains.ensures ∙ c.if-contains.true in
    record {
      touched = ap (with_state c.args.self.now) (sym (ap (λ (e : BeforeCopy). e.state) (read_held c.args.self.now.state c.args.moving.now.keys c.args.pid c.args.addr c.args.len _ there.2 held)));
      due =
          sym (ap (λ (e : BeforeCopy). e.due) (read_held c.args.self.now.state c.args.moving.now.keys c.args.pid c.args.addr c.args.len _ there.2 held));
      room = tt;
    }

pub returns-in-Err-Refused-clause-touched : goal.returns-in-Err-Refused-clause-touched
returns-in-Err-Refused-clause-touched g c =
    let there = found_in c.args.self.now.state c.self.inside.spaces.processes c.self.inside.spaces.areas c.in-Ok.resolved c.args.pid c.args.addr c.args.len (ap (λ (x : RunState). x.state.processes) (sym c.self.view_is)) (ap (λ (x : RunState). x.state.areas) (sym c.self.view_is)) c.in-Ok.ensures.ok in
    let free = ap (λ p. list_any (same_page p) c.args.moving.now.keys) there.3.page ∙ sym c.contains.ensures ∙ c.if-contains.false in
    let goes = read_turned_down c.args.self.now.state c.args.moving.now.keys c.touch_noted.new.self.state c.args.pid c.args.addr c.args.len _ c.in-Err-Refused.field-0 c.in-Err-Refused.error there.2 free c.in-Err-Refused.field-0-is (c.in-Err-Refused.ensures.touches there.0 there.1 there.3) in
    record {
      touched = c.in-Err-Refused.ensures.same ∙ ap (with_state c.args.self.now) (goes.0 ∙ sym (ap (λ (e : BeforeCopy). e.state) goes.1));
      due =
          ap (λ e. Known (Refused e)) c.in-Err-Refused.error-is ∙ sym (ap (λ (e : BeforeCopy). e.due) goes.1);
      room = tt;
    }

pub returns-clause-err : goal.returns-clause-err
returns-clause-err g c =
    let there = found_in c.args.self.now.state c.self.inside.spaces.processes c.self.inside.spaces.areas c.in-Ok.resolved c.args.pid c.args.addr c.args.len (ap (λ (x : RunState). x.state.processes) (sym c.self.view_is)) (ap (λ (x : RunState). x.state.areas) (sym c.self.view_is)) c.in-Ok.ensures.ok in
    c.in-Err-HostMemory.ensures.same ∙ ap (λ (s : State). with_state c.args.self.now s) (touches_err c.in-Err-HostMemory.field-0 c.args.self.now.state c.touch_noted.new.self.state _ (c.in-Err-HostMemory.ensures.touches there.0 there.1 there.3))

pub returns-in_err-bytes-clause-allocates : goal.returns-in_err-bytes-clause-allocates
returns-in_err-bytes-clause-allocates g c =
    let there = found_in c.args.self.now.state c.self.inside.spaces.processes c.self.inside.spaces.areas c.in-Ok.resolved c.args.pid c.args.addr c.args.len (ap (λ (x : RunState). x.state.processes) (sym c.self.view_is)) (ap (λ (x : RunState). x.state.areas) (sym c.self.view_is)) c.in-Ok.ensures.ok in
    let free = ap (λ p. list_any (same_page p) c.args.moving.now.keys) there.3.page ∙ sym c.contains.ensures ∙ c.if-contains.false in
    err_always c.from_residual.result (ap result_err there.2, ap (is_held c.args.moving.now.keys) there.2 ∙ free)

pub returns-clause-allocates : goal.returns-clause-allocates
returns-clause-allocates g c =
    let there = found_in c.args.self.now.state c.self.inside.spaces.processes c.self.inside.spaces.areas c.in-Ok.resolved c.args.pid c.args.addr c.args.len (ap (λ (x : RunState). x.state.processes) (sym c.self.view_is)) (ap (λ (x : RunState). x.state.areas) (sym c.self.view_is)) c.in-Ok.ensures.ok in
    let free = ap (λ p. list_any (same_page p) c.args.moving.now.keys) there.3.page ∙ sym c.contains.ensures ∙ c.if-contains.false in
    (ap result_err there.2, ap (is_held c.args.moving.now.keys) there.2 ∙ free)

pub touch_noted-requires : goal.touch_noted-requires
touch_noted-requires g c = let there = found_in c.args.self.now.state c.self.inside.spaces.processes c.self.inside.spaces.areas c.in-Ok.resolved c.args.pid c.args.addr c.args.len (ap (λ (x : RunState). x.state.processes) (sym c.self.view_is)) (ap (λ (x : RunState). x.state.areas) (sym c.self.view_is)) c.in-Ok.ensures.ok in (there.0, there.1, there.3)

pub push_zeros-requires : goal.push_zeros-requires
push_zeros-requires g c = omega (arith, c.in_ok-bytes.ensures.len, c.in_ok-bytes.ensures.capacity)

pub returns-in-Ok-Some-clause-back : goal.returns-in-Ok-Some-clause-back
returns-in-Ok-Some-clause-back g c = c.in-Ok-Some.ensures.back

pub returns-in-Ok-None-clause-back : goal.returns-in-Ok-None-clause-back
returns-in-Ok-None-clause-back g c = c.in-Ok-None.ensures.back

pub returns-in-Err-Refused-clause-back : goal.returns-in-Err-Refused-clause-back
returns-in-Err-Refused-clause-back g c = c.in-Err-Refused.ensures.back

pub returns-clause-back : goal.returns-clause-back
returns-clause-back g c = c.in-Err-HostMemory.ensures.back

pub returns-then-contains-clause-back : goal.returns-then-contains-clause-back
returns-then-contains-clause-back g c can = (can, refl)

pub returns-in-Err-clause-back : goal.returns-in-Err-clause-back
returns-in-Err-clause-back g c can = (can, refl)
