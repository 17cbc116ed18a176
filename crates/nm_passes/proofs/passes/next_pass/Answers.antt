use Rattle.std.proofs.Common.{sym, subst, ap, ◌∙◌}
use Rattle.std.specs.List.{AllByRecursion}
use Rattle.nm_model.specs.definitions.Run.{with_counts}
use Rattle.nm_passes.specs.definitions.Passes.{short_of_frames}
use Rattle.nm_passes.specs.laws.Full.{AreStanding, WouldMove, pass, rounded_up}
use Rattle.nm_passes.proofs.NodesInTurn.FullNodes.{full_node_takes_none, left_would_move, runs_go_by_length}
use Rattle.nm_passes.proofs.NodesInTurn.PagesLeft.{standing_counted, move_counted}
use Rattle.nm_passes.proofs.passes.next_pass.Goals as goal

pub returns-in-Some-clause-runs : goal.returns-in-Some-clause-runs
returns-in-Some-clause-runs g c =
    let x = c.args in
    let s = x.machine.now in
    let ws = x.left.wanted.items in
    let full = full_node_takes_none x.limit s x.node ws c.requires.some c.requires.pages c.in-Some.ensures.full c.in-Some.ensures.lost in
    let count = c.len-count.ensures ∙ x.left.wanted.ok.0 in (
      c.count_failures.ensures ∙ ap (with_counts s 0) count ∙ sym full.0,
      (
        c.div_ceil.ensures ∙ ap (λ n. rounded_up n x.limit) count ∙ sym (runs_go_by_length x.limit x.node ws c.requires.some),
        sym full.1,
      ),
    )

pub returns-in-Some-clause-left : goal.returns-in-Some-clause-left
returns-in-Some-clause-left g c =
    let x = c.args in
    let s = x.machine.now in
    let ws = x.left.wanted.items in
    let n = c.len-count.result in
    let is = sym c.count_failures.ensures in (
      λ tried. (x.node, subst (λ t. AllByRecursion (WouldMove t x.node) ws) is (move_counted s 0 n x.node ws c.in-Some.ensures.lost)),
      subst (λ t. AreStanding t c.in-Some.nodes ws) is (standing_counted s 0 n c.in-Some.nodes ws c.in-Some.ensures.standing),
    )

pub returns-clause-left : goal.returns-clause-left
returns-clause-left g c =
    let x = c.args in
    let s = x.machine.now in
    let ws = c.as_slice-wanted.result.now in
    let made = pass x.limit s x.node ws in
    let moves = subst (λ t. AllByRecursion (WouldMove t x.node) (short_of_frames ws made.statuses)) (sym c.in_ok-pass.ensures.0) (left_would_move x.limit s x.node ws c.requires.some) in
    (λ tried. (x.node, subst (AllByRecursion (WouldMove c.make_pass.new.machine x.node)) (sym c.in_ok-pass.ensures.1.1) moves), tt)
