use Rattle.std.proofs.Common.{arith, ◌≡◌, w32, to_z, of_z, ℕ, ℤ, ◌++◌, [], ◌∷◌, get_or, map, ap, sym, ◌∙◌}
use Rattle.std.proofs.lemmas.Int.{to_z-of_z}
use Rattle.std.specs.Prelude.{◌/◌}
use Rattle.std.proofs.lemmas.List.{map_more, take_all}
use Rattle.std.proofs.lemmas.Result.{IfOk-from_err}
use Rattle.nm_model.specs.definitions.Status.{node_status}
use Rattle.nm_passes.proofs.Batches.Results.{on_err}
use Rattle.nm_calls.proofs.status.statuses_of.Goals as goal

pub loop-address-preserved : goal.loop-address-preserved
loop-address-preserved g c =
    let status : ℕ → ℤ = λ address. node_status c.args.machine.now c.args.pid (address / 4096) in
    let address = get_or c.args.pages.now c.loop-address.address-index 0 in
    let is_so : to_z w32 (of_z w32 c.node_status-status.result) ≡ c.node_status-status.result = grind (arith, to_z-of_z, c.node_status-status.type_inv) in
    c.in_ok-push.ensures.items
    ∙ ap (λ z. c.loop-address.statuses.items ++ z ∷ []) (is_so ∙ c.node_status-status.ensures ∙ ap (node_status c.args.machine.now c.args.pid) c.of_address.ensures)
    ∙ ap (λ l. l ++ status address ∷ []) c.loop-address.invariant
    ∙ sym (map_more status c.args.pages.now c.loop-address.address-index 0 c.loop-address-test.true)

pub returns-in_err-statuses-clause-list : goal.returns-in_err-statuses-clause-list
returns-in_err-statuses-clause-list g c = IfOk-from_err _ _ c.from_residual.ensures.0

pub loop-address-init : goal.loop-address-init
loop-address-init g c = c.in_ok-statuses.ensures.items

pub returns-in_err-push-clause-list : goal.returns-in_err-push-clause-list
returns-in_err-push-clause-list g c = IfOk-from_err _ _ c.from_residual-in_err-push.ensures.0

pub returns-in_err-push-clause-allocates : goal.returns-in_err-push-clause-allocates
returns-in_err-push-clause-allocates g c = on_err c.from_residual-in_err-push.result (omega (arith, c.loop-address-test.true))

pub returns-clause-list : goal.returns-clause-list
returns-clause-list g c =
    let status : ℕ → ℤ = λ address. node_status c.args.machine.now c.args.pid (address / 4096) in
    c.loop-address.invariant ∙ ap (map status) (take_all c.loop-address.address-index c.args.pages.now (omega (arith, c.loop-address-test.false)))
