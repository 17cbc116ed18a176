use Rattle.std.proofs.Common.{ap, ◌∙◌, rules}
use Rattle.std.specs.List.{filter}
use Rattle.std.proofs.lemmas.Fn.{filter_same}
use Rattle.nm_types.specs.Nodes.{is_in}
use Rattle.nm_policy.proofs.first_touch.first_touch_order.Goals as goal

pub returns-clause-order : goal.returns-clause-order
returns-clause-order g c =
    let kept = is_in c.way-from.result.1 in
    filter_same _ kept _ (λ x b f' r. search rules) _ _ c.retain.ensures.filtered
    ∙ ap (filter kept) c.in_ok-order.ensures.value
    ∙ c.way-from.ensures c.args.geometry.now c.args.online
