use Rattle.std.proofs.Common.{◌<◌, ◌+◌, List, length, map, ap, sym, subst, ◌∙◌}
use Rattle.std.proofs.lemmas.List.{length-map}
use Rattle.std.specs.Prelude.{OnErr}
use Rattle.nm_types.specs.Layout.{node_count}
use Rattle.nm_model.specs.definitions.Cut.{Request, requests_of}
use Rattle.nm_runs.specs.Targets.{first_refusal}
use Rattle.nm_pool.specs.views.Accesses.{answer_shown}
use Rattle.nm_requests.specs.Calls.{MovePages}
use Rattle.nm_requests.specs.Views.{shown_during}
use Rattle.nm_calls.specs.definitions.Answers.{Statuses}
use Rattle.nm_calls.specs.definitions.Does.{Does}
use Rattle.nm_passes.specs.definitions.Moves.{Moves}
use Rattle.nm_calls.specs.definitions.Outcome.{refusal_of}
use Rattle.nm_passes.specs.definitions.Permission.{owner_of}
use Rattle.nm_calls.specs.definitions.Systems.{SystemState, in_state}
use Rattle.nm_calls.proofs.Outcomes.{refuses_by, no_lack, move_unasked, move_checked, moves_does}
use Rattle.nm_calls.proofs.system.System.move_pages.Goals as goal

pub returns-in_err-permit-clause-done : goal.returns-in_err-permit-clause-done
unfolding refusal_of
returns-in_err-permit-clause-done g c =
    let x = c.args.request.now in
    let s = c.self.inside.machine in
    let y : SystemState = record { state = c.self.inside.machine; run_limit = c.self.inside.run_limit } in
    let call = MovePages x.caller x.pid x.batch.pages.items x.batch.nodes.items x.flags (shown_during x.during.items) in
    let unasked = move_unasked s x.caller x.pid x.batch.nodes.items x.flags c.in_err-permit.field-0.0 c.in_err-permit.ensures.exact in
    subst (λ (z : SystemState). Does (λ moved. Statuses moved.failed moved.statuses.items (map answer_shown moved.answers.items)) c.from_residual.result z z call) c.self.view_is
    (refuses_by _ y call c.from_residual.result c.in_err-permit.field-0.0 unasked c.from_residual.ensures)

pub returns-in_err-permit-clause-allocates : goal.returns-in_err-permit-clause-allocates
returns-in_err-permit-clause-allocates g c = λ runs policy_set is. no_lack _ c.in_err-permit.field-0.0 runs policy_set c.from_residual.ensures is

pub returns-in_err-check_targets-clause-done : goal.returns-in_err-check_targets-clause-done
unfolding refusal_of
returns-in_err-check_targets-clause-done g c =
    let x = c.args.request.now in
    let s = c.self.inside.machine in
    let y : SystemState = record { state = c.self.inside.machine; run_limit = c.self.inside.run_limit } in
    let call = MovePages x.caller x.pid x.batch.pages.items x.batch.nodes.items x.flags (shown_during x.during.items) in
    let checked = move_checked s x.caller x.pid x.batch.nodes.items x.flags c.in_ok-permit.permit.allowed c.in_ok-permit.ensures.exact c.in_ok-permit.ensures.allowed in
    let refusal = ap (first_refusal (node_count s.layout) s.online c.in_ok-permit.permit.allowed) (sym c.as_slice-nodes.ensures.value) ∙ c.in_err-check_targets.ensures.exact in
    subst (λ (z : SystemState). Does (λ moved. Statuses moved.failed moved.statuses.items (map answer_shown moved.answers.items)) c.from_residual-in_err-check_targets.result z z call) c.self.view_is
    (refuses_by _ y call c.from_residual-in_err-check_targets.result c.in_err-check_targets.field-0.0 (checked ∙ refusal) c.from_residual-in_err-check_targets.ensures)

pub returns-in_err-check_targets-clause-allocates : goal.returns-in_err-check_targets-clause-allocates
returns-in_err-check_targets-clause-allocates g c = λ runs policy_set is. no_lack _ c.in_err-check_targets.field-0.0 runs policy_set c.from_residual-in_err-check_targets.ensures is

pub invariant_of-self : goal.invariant_of-self
invariant_of-self g c = c.self.invariant

pub returns-clause-done : goal.returns-clause-done
returns-clause-done g c =
    let x = c.args.request.now in
    let s = c.self.inside.machine in
    let y : SystemState = record { state = c.self.inside.machine; run_limit = c.self.inside.run_limit } in
    let call = MovePages x.caller x.pid x.batch.pages.items x.batch.nodes.items x.flags (shown_during x.during.items) in
    let permit = c.in_ok-permit.permit in
    let pages = x.batch.pages.items in
    let nodes = x.batch.nodes.items in
    let during = shown_during x.during.items in
    let new = c.move_batch.new.machine in
    let checked = move_checked s x.caller x.pid nodes x.flags permit.allowed c.in_ok-permit.ensures.exact c.in_ok-permit.ensures.allowed in
    let none = checked ∙ ap (first_refusal (node_count s.layout) s.online permit.allowed) (sym c.as_slice-nodes.ensures.value) ∙ c.in_ok-check_targets.ensures.exact in
    let asked = ap (λ p. requests_of p permit.all pages nodes) c.in_ok-permit.ensures.pid ∙ ap (λ a. requests_of (owner_of x.caller x.pid) a pages nodes) c.in_ok-permit.ensures.all in
    let moves = subst (λ (es : List Request). Moves c.move_batch.result s new y.run_limit es during) asked c.move_batch.ensures.moves in
    subst (λ (z : SystemState). Does (λ moved. Statuses moved.failed moved.statuses.items (map answer_shown moved.answers.items)) c.move_batch.result z (in_state y new) call) c.self.view_is
    (moves_does y x.caller x.pid pages nodes x.flags during c.move_batch.result new none moves)

pub returns-clause-allocates : goal.returns-clause-allocates
returns-clause-allocates g c = λ runs policy_set is.
    let x = c.args.request.now in
    let some : 0 < length x.batch.pages.items + length x.during.items = subst (λ r. OnErr r (0 < length x.batch.pages.items + length x.during.items)) is c.move_batch.ensures.allocates in
    subst (λ n. 0 < length x.batch.pages.items + n) (sym (length-map x.during.items _)) some
