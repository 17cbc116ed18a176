use Rattle.std.proofs.Common.{◌<◌, ◌^◌, ap, sym, subst, ◌∙◌, arith, pos, w32}
use Rattle.std.proofs.lemmas.Int.{to_z_pos}
use Rattle.nm_types.specs.Layout.{Layout, frame_count, node_of}
use Rattle.nm_runs.specs.Shown.{HasFrameBelow}
use Rattle.nm_model.proofs.looks.{node_of_look, look_tells_node}
use Rattle.nm_passes.proofs.Looks.{seen_is, lent_shows}
use Rattle.nm_calls.proofs.status.node_status.Goals as goal

pub node_of-requires : goal.node_of-requires
node_of-requires g c =
    let s = c.args.machine.now in
    let below = (lent_shows s c.spaces.result.now c.geometry-geometry.ensures.sound c.spaces.ensures).seen c.args.pid c.args.vpn in
    subst (λ (l : Layout). c.in-At.frame < frame_count l) (sym c.geometry-geometry.ensures.geometry)
    (subst (HasFrameBelow (frame_count s.layout)) (sym c.in-At.ensures) below)

pub overflow_cast-result : goal.overflow_cast-result
overflow_cast-result g c = omega (arith, c.number-in-At.ensures, c.node_of.ensures.below, c.node_count.ensures.machine.few_nodes)

pub returns-in-At : goal.returns-in-At
returns-in-At g c =
    let s = c.args.machine.now in
    let seen = c.in-At.ensures ∙ seen_is s c.spaces.result.now c.args.pid c.args.vpn c.spaces.ensures in
    let small : c.number-in-At.result < 2 ^ 31 = omega (arith, c.number-in-At.ensures, c.node_of.ensures.below, c.node_count.ensures.machine.few_nodes) in
    to_z_pos w32 c.number-in-At.result small
    ∙ ap (λ n. pos n) (c.number-in-At.ensures ∙ c.node_of.ensures.node ∙ ap (λ (l : Layout). node_of l c.in-At.frame) c.geometry-geometry.ensures.geometry)
    ∙ ap (node_of_look s.layout) seen
    ∙ look_tells_node s c.args.pid c.args.vpn
