use Rattle.std.proofs.Common.{ℕ, ◌<◌, ap, sym, subst, ◌∙◌, arith, length}
use Rattle.std.specs.Prelude.{All, not, ◌==◌}
use Rattle.std.proofs.lemmas.List.Elements.{All-from_recursion, recursion_from_All, All-filter}
use Rattle.nm_types.specs.Layout.{Layout, node_count}
use Rattle.nm_types.specs.Nodes.{without_node}
use Rattle.nm_model.specs.definitions.Order.{zonelist}
use Rattle.nm_laws.proofs.Soundness.Online.{set_is_few}
use Rattle.nm_calls.specs.definitions.Offline.{refuges}
use Rattle.nm_passes.proofs.Policies.Nodes.{zonelist_length}
use Rattle.nm_calls.proofs.NodesOffline.Results.{by_distance_all}
use Rattle.nm_calls.proofs.offline.refuges.Goals as goal

pub prove-unreachable-requires : goal.prove-unreachable-requires
prove-unreachable-requires g c = omega (arith, set_is_few c.others-others.result c.len.ensures.nodes, c.len.ensures.count, c.if-prove.true)

pub returns-clause-order : goal.returns-clause-order
returns-clause-order g c =
    c.in_ok-order.ensures.value ∙ ap (λ ns. zonelist c.geometry.result.now ns c.args.node) c.others-others.ensures
    ∙ ap (λ (g : Layout). zonelist g (without_node c.args.machine.now.online c.args.node) c.args.node) c.geometry.ensures.geometry

pub returns-clause-few : goal.returns-clause-few
returns-clause-few g c =
    let few = set_is_few c.others-others.result c.len.ensures.nodes in
    let len = zonelist_length c.geometry.result.now c.others-others.result c.args.node in
    omega (arith, ap length c.in_ok-order.ensures.value, len, few)

pub returns-clause-below : goal.returns-clause-below
returns-clause-below g c =
    let s = c.args.machine.now in
    let P : ℕ → Type 0 = λ n. n < node_count s.layout in
    let online = All-from_recursion P s.online c.geometry.ensures.sound.online.below in
    let others = recursion_from_All P (without_node s.online c.args.node) (All-filter (λ n. not (n == c.args.node)) P s.online online) in
    subst (All P) (sym (returns-clause-order g c))
    (All-from_recursion P (refuges s c.args.node) (by_distance_all P s.layout c.args.node (without_node s.online c.args.node) others))
