use Rattle.std.proofs.Common.{◌≡◌, ap, sym, subst, ◌∙◌}
use Rattle.nm_types.specs.Nodes.{is_in}
use Rattle.nm_requests.specs.Calls.{Offline}
use Rattle.nm_calls.specs.definitions.Answers.{Done}
use Rattle.nm_calls.specs.definitions.Systems.{SystemState, in_state}
use Rattle.nm_calls.specs.definitions.Outcome.{outcome}
use Rattle.nm_calls.specs.definitions.Does.{Does}
use Rattle.nm_calls.proofs.NodesOffline.Results.{empties_does, stays_offline}
use Rattle.nm_calls.proofs.system.System.offline.Goals as goal

pub returns-then-not-contains-clause-done : goal.returns-then-not-contains-clause-done
returns-then-not-contains-clause-done g c =
    let y : SystemState = record { state = c.self.inside.machine; run_limit = c.self.inside.run_limit } in
    subst (λ (z : SystemState). outcome z (Offline c.args.node) ≡ record { answer = Done; system = z }) c.self.view_is
    (stays_offline y c.args.node c.in_ok-check_offline.ensures.exact (ap (λ ns. is_in ns c.args.node) (sym c.online.ensures) ∙ sym c.contains.ensures ∙ c.if-not-contains.true))

pub returns-clause-done : goal.returns-clause-done
returns-clause-done g c =
    let y : SystemState = record { state = c.self.inside.machine; run_limit = c.self.inside.run_limit } in
    subst (λ (z : SystemState). Does (λ done. Done) c.empty_node.result z (in_state y c.empty_node.new.machine) (Offline c.args.node)) c.self.view_is
    (empties_does y c.args.node c.empty_node.result c.empty_node.new.machine c.in_ok-check_offline.ensures.exact c.empty_node.ensures)
