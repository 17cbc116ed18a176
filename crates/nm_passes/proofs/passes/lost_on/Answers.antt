use Rattle.std.proofs.Common.{sym, ap, subst, ◌∙◌, arith}
use Rattle.nm_types.specs.Layout.{node_count}
use Rattle.nm_passes.specs.laws.Full.{AreStanding}
use Rattle.nm_passes.proofs.NodesInTurn.PagesLeft.{all_would_move, standing_if, none_free}
use Rattle.nm_passes.proofs.passes.lost_on.Goals.{in-Some, in-None}
use Rattle.nm_passes.proofs.passes.lost_on.Goals as goal

pub returns-clause-full : goal.returns-clause-full
returns-clause-full g c = none_free c.args.machine.now c.args.node (sym c.has_free.ensures ∙ c.if-has_free.false)

pub returns-clause-lost : goal.returns-clause-lost
returns-clause-lost g c =
    let s = c.args.machine.now in
    let left = c.args.left.now in
    let ws = left.wanted.items in
    let nodes = c.match-left.nodes in
    let are : AreStanding s nodes ws = elim c.match-left.branch [
      | in-Some w ↦ subst (λ ns. AreStanding s ns ws) (sym w.nodes-is) (standing_if s left.standing w.in-Some.nodes ws c.requires.left.1 w.in-Some.is)
      | in-None w ↦ subst (λ ns. AreStanding s ns ws) (sym w.nodes-is) (subst (AreStanding s w.standing-nodes.result) w.as_slice.ensures.value w.standing-nodes.ensures)
    ] in
    all_would_move s nodes c.args.node ws (omega (arith, c.requires.node, c.node_count.ensures.machine.few_nodes, ap node_count c.geometry.ensures.geometry))
    (sym c.contains.ensures ∙ c.if-contains.false) are.all (c.requires.left.0 c.if-not-left.false)
