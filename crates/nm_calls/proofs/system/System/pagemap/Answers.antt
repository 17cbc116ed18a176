use Rattle.std.proofs.Common.{◌≡◌, ◌<◌, Err, length, refl, ap, sym, subst, ◌∙◌}
use Rattle.nm_model.specs.definitions.PageTables.{entries_of}
use Rattle.nm_requests.specs.Calls.{Pagemap}
use Rattle.nm_calls.specs.definitions.Answers.{Entries}
use Rattle.nm_calls.specs.definitions.Does.{Does}
use Rattle.nm_calls.specs.definitions.Entries.{entries_mapped, entries_shown}
use Rattle.nm_calls.specs.definitions.Outcome.{outcome, refusal_of, refused_at_once, end_of_call}
use Rattle.nm_calls.specs.definitions.Systems.{SystemState}
use Rattle.nm_calls.proofs.PageLists.Pagemaps.{pagemap_shown}
use Rattle.nm_calls.proofs.Outcomes.{answers, out_at_once, returns_error, machine_lacks}
use Rattle.nm_calls.proofs.system.System.pagemap.Goals as goal

pub returns-in_err-entries-clause-done : goal.returns-in_err-entries-clause-done
unfolding refusal_of refused_at_once
returns-in_err-entries-clause-done g c =
    let y : SystemState = record { state = c.self.inside.machine; run_limit = c.self.inside.run_limit } in
    subst (λ (z : SystemState). Does (λ mapped. Entries (entries_mapped mapped.items)) c.from_residual.result z z (Pagemap c.args.pid)) c.self.view_is
    (returns_error _ y (Pagemap c.args.pid) c.from_residual.result c.in_err-entries.field-0.0 _ refl c.in_err-entries.ensures.entries c.in_err-entries.ensures.memory c.from_residual.ensures)

pub returns-in_err-entries-clause-allocates : goal.returns-in_err-entries-clause-allocates
returns-in_err-entries-clause-allocates g c = λ runs policy_set is.
    let lack = machine_lacks _ c.in_err-entries.field-0.0 runs policy_set c.from_residual.ensures is in
    subst (λ (z : SystemState). 0 < length (entries_of z.state c.args.pid)) c.self.view_is (c.in_err-entries.ensures.allocates (ap Err lack))

pub returns-in_err-mapped_of-clause-done : goal.returns-in_err-mapped_of-clause-done
unfolding refusal_of refused_at_once
returns-in_err-mapped_of-clause-done g c =
    let y : SystemState = record { state = c.self.inside.machine; run_limit = c.self.inside.run_limit } in
    subst (λ (z : SystemState). Does (λ mapped. Entries (entries_mapped mapped.items)) c.from_residual-in_err-mapped_of.result z z (Pagemap c.args.pid)) c.self.view_is
    (out_at_once _ y (Pagemap c.args.pid) c.from_residual-in_err-mapped_of.result c.in_ok-entries.ensures.entries.0 c.from_residual-in_err-mapped_of.ensures)

pub returns-in_err-mapped_of-clause-allocates : goal.returns-in_err-mapped_of-clause-allocates
returns-in_err-mapped_of-clause-allocates g c = λ runs policy_set is.
    subst (λ (z : SystemState). 0 < length (entries_of z.state c.args.pid)) c.self.view_is
    (subst (λ l. 0 < length l) (c.as_slice.ensures.value ∙ c.in_ok-entries.ensures.entries.1) c.in_err-mapped_of.ensures.allocates)

pub returns-clause-done : goal.returns-clause-done
unfolding refusal_of end_of_call
returns-clause-done g c =
    let y : SystemState = record { state = c.self.inside.machine; run_limit = c.self.inside.run_limit } in
    let shown = c.in_ok-mapped_of.ensures.list ∙ ap entries_shown (c.as_slice.ensures.value ∙ c.in_ok-entries.ensures.entries.1) in
    subst (λ (z : SystemState). outcome z (Pagemap c.args.pid) ≡ record { answer = Entries (entries_mapped c.in_ok-mapped_of.field-0.items); system = z }) c.self.view_is
    (answers y (Pagemap c.args.pid) _ c.in_ok-entries.ensures.entries.0 (ap (λ es. record { answer = Entries es; system = y }) (sym (shown ∙ pagemap_shown y.state c.args.pid))))

pub returns-clause-allocates : goal.returns-clause-allocates
returns-clause-allocates g c = λ runs policy_set is. absurd (cc)
