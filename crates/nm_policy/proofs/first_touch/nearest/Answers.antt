use Rattle.std.proofs.Common.{sym, ◌∙◌}
use Rattle.std.specs.Prelude.{◌&&◌}
use Rattle.nm_types.specs.Nodes.{is_in}
use Rattle.nm_model.specs.definitions.Order.{zonelist}
use Rattle.nm_policy.proofs.Nearest.{all_steps, find_filtered}
use Rattle.nm_policy.proofs.first_touch.nearest.Goals as goal

pub loop-node-init : goal.loop-node-init
loop-node-init g c =
    let kept = is_in c.args.kept in
    let free = is_in c.args.free in
    all_steps c.args.geometry.now c.args.from (λ n. kept n && free n) c.args.online
    ∙ sym (find_filtered kept free (zonelist c.args.geometry.now c.args.online c.args.from))
