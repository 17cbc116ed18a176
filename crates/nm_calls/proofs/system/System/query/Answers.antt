use Rattle.std.proofs.Common.{◌≡◌, ℤ, List, [], length, ◌<◌, ap, sym, subst, ◌∙◌}
use Rattle.nm_requests.specs.Calls.{Query}
use Rattle.nm_calls.specs.definitions.Answers.{Statuses}
use Rattle.nm_calls.specs.definitions.Does.{Does}
use Rattle.nm_calls.specs.definitions.Outcome.{outcome, refusal_of, refused_at_once, end_of_call, statuses_of}
use Rattle.nm_passes.specs.definitions.Permission.{owner_of}
use Rattle.nm_calls.specs.definitions.Systems.{SystemState}
use Rattle.nm_calls.proofs.Outcomes.{answers, refuses_by, out_at_once, no_lack}
use Rattle.nm_calls.proofs.system.System.query.Goals as goal

pub returns-in_err-permit-clause-done : goal.returns-in_err-permit-clause-done
unfolding refusal_of
returns-in_err-permit-clause-done g c =
    let x = c.args.question.now in
    let y : SystemState = record { state = c.self.inside.machine; run_limit = c.self.inside.run_limit } in
    let call = Query x.caller x.pid x.pages.items x.flags in
    subst (λ (z : SystemState). Does (λ statuses. Statuses 0 statuses.items []) c.from_residual.result z z call) c.self.view_is
    (refuses_by _ y call c.from_residual.result c.in_err-permit.field-0.0 c.in_err-permit.ensures.exact c.from_residual.ensures)

pub returns-in_err-permit-clause-allocates : goal.returns-in_err-permit-clause-allocates
returns-in_err-permit-clause-allocates g c = λ runs policy_set is. no_lack _ c.in_err-permit.field-0.0 runs policy_set c.from_residual.ensures is

pub returns-in_err-statuses_of-clause-done : goal.returns-in_err-statuses_of-clause-done
unfolding refusal_of refused_at_once
returns-in_err-statuses_of-clause-done g c =
    let x = c.args.question.now in
    let y : SystemState = record { state = c.self.inside.machine; run_limit = c.self.inside.run_limit } in
    let call = Query x.caller x.pid x.pages.items x.flags in
    subst (λ (z : SystemState). Does (λ statuses. Statuses 0 statuses.items []) c.from_residual-in_err-statuses_of.result z z call) c.self.view_is
    (out_at_once _ y call c.from_residual-in_err-statuses_of.result c.in_ok-permit.ensures.exact c.from_residual-in_err-statuses_of.ensures)

pub returns-in_err-statuses_of-clause-allocates : goal.returns-in_err-statuses_of-clause-allocates
returns-in_err-statuses_of-clause-allocates g c = λ runs policy_set is. subst (λ l. 0 < length l) c.as_slice.ensures.value c.in_err-statuses_of.ensures.allocates

pub returns-clause-done : goal.returns-clause-done
unfolding refusal_of end_of_call
returns-clause-done g c =
    let x = c.args.question.now in
    let s = c.self.inside.machine in
    let y : SystemState = record { state = c.self.inside.machine; run_limit = c.self.inside.run_limit } in
    let call = Query x.caller x.pid x.pages.items x.flags in
    let is_so = c.in_ok-statuses_of.ensures.list ∙ ap (λ pid. statuses_of s pid c.as_slice.result.now) c.in_ok-permit.ensures.pid ∙ ap (statuses_of s (owner_of x.caller x.pid)) c.as_slice.ensures.value in
    subst (λ (z : SystemState). outcome z call ≡ record { answer = Statuses 0 c.in_ok-statuses_of.field-0.items []; system = z }) c.self.view_is
    (answers y call _ c.in_ok-permit.ensures.exact (ap (λ (l : List ℤ). record { answer = Statuses 0 l []; system = y }) (sym is_so)))

pub returns-clause-allocates : goal.returns-clause-allocates
returns-clause-allocates g c = λ runs policy_set is. absurd (cc)
