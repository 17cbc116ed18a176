use Rattle.std.proofs.Common.{◌<◌, arith, length, ap, subst, ◌∙◌}
use Rattle.nm_types.specs.Layout.{node_count}
use Rattle.nm_types.specs.State.{State, free_list}
use Rattle.nm_model.specs.definitions.Effect.{list_refusal}
use Rattle.nm_engine.proofs.MidRun.AreaCalls.{list_fine}
use Rattle.nm_engine.proofs.Does.HandedOn.{may_ask}
use Rattle.nm_engine.proofs.machine.Machine.free_list.Goals as goal

pub returns-clause-value : goal.returns-clause-value
returns-clause-value g c =
    let is = c.self.view_is in
    let count = ap (λ (s : State). node_count s.layout) is in (
      list_fine c.args.self.now c.args.node (omega (arith, c.if-index-node_count.false, c.index.ensures, c.node_count.ensures.count, ap node_count c.geometry.ensures, count)),
      c.in_ok-free_list.ensures.frames ∙ ap (λ (s : State). free_list s c.args.node) is,
    )

pub returns-in_err-free_list-clause-memory : goal.returns-in_err-free_list-clause-memory
returns-in_err-free_list-clause-memory g c =
    let count = ap (λ (s : State). node_count s.layout) c.self.view_is in
    may_ask c.from_residual.result (list_refusal c.args.self.now c.args.node)
    (list_fine c.args.self.now c.args.node (omega (arith, c.if-index-node_count.false, c.index.ensures, c.node_count.ensures.count, ap node_count c.geometry.ensures, count)))

pub returns-in_err-free_list-clause-allocates : goal.returns-in_err-free_list-clause-allocates
returns-in_err-free_list-clause-allocates g c = λ _. subst (λ (s : State). 0 < length (free_list s c.args.node)) c.self.view_is c.in_err-free_list.ensures.allocates
