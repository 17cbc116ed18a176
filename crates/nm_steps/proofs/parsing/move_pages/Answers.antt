use Rattle.std.proofs.Common.{◌≡◌, ◌∙◌, ℕ, true, ap, subst, codes}
use Rattle.nm_model.specs.definitions.Cut.{run_count}
use Rattle.nm_steps.specs.Form.{items_at}
use Rattle.nm_steps.specs.Memory.{begins_at, flight_allocates}
use Rattle.nm_steps.proofs.Memory.{and_both, batch_begins, handed_on, is_there}
use Rattle.nm_steps.proofs.parsing.move_pages.Goals as goal

pub returns-in_err-during-clause-allocates : goal.returns-in_err-during-clause-allocates
returns-in_err-during-clause-allocates g c = λ is.
    let memory = handed_on c.from_residual-in_err-during.result c.flights_at.result _ _ c.from_residual-in_err-during.ensures c.in_err-during.was is in
    let d = g.V.JsonValue.as_data c.args.value.now in
    let batch = c.in_ok-batch.batch in
    let runs = c.run_count-runs.ensures.count ∙ ap (λ ns. run_count c.args.limit ns) c.as_slice.ensures.value in
    let first = subst (λ (n : ℕ). begins_at (flight_allocates n) (items_at (codes "during") d) ≡ true) runs (c.flights_at.ensures.allocates memory) in
    and_both _ _ (and_both _ _ (is_there _ _ c.in_ok-caller.ensures.value) (is_there _ _ c.in_ok-pid.ensures.value))
    (batch_begins c.args.limit d (batch.pages.items, batch.nodes.items) _ c.in_ok-batch.ensures.batch batch.paired first)
