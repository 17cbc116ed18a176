use Rattle.std.proofs.Common.{◌∙◌, ap}
use Rattle.std.specs.Prelude.{find}
use Rattle.nm_types.specs.Nodes.{is_in}
use Rattle.nm_policy.proofs.first_touch.first_touch_node.Goals as goal

pub returns : goal.returns
returns g c = c.nearest.ensures ∙ ap (find (is_in c.args.free)) (c.way-from.ensures c.args.geometry.now c.args.online)
