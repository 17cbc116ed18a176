use Rattle.std.proofs.Common.{◌+◌, take, sym, subst, ◌∙◌, arith}
use Rattle.std.proofs.lemmas.List.{take_all}
use Rattle.nm_types.proofs.Cases.{some_is}
use Rattle.nm_passes.specs.laws.Full.{StandAmong, EachHasSome}
use Rattle.nm_passes.proofs.NodesInTurn.PagesLeft.{stands_there, some_there, stands_nowhere, past_all, none_is}
use Rattle.nm_passes.proofs.passes.standing.Goals.{in-Some+then-index-lt64, in-Some+else-index-lt64, in_default}
use Rattle.nm_passes.proofs.passes.standing.Goals as goal

pub loop-page-preserved : goal.loop-page-preserved
loop-page-preserved g c =
    let s = c.args.machine.now in
    let ws = c.args.wanted.now in
    let k = c.loop-page.page-index in
    let page = c.page-item.result in
    let nodes = c.loop-page.nodes in
    let among : StandAmong s c.match-place_of.nodes (take (k + 1) ws) = elim c.match-place_of.branch [
      | in-Some+then-index-lt64 w ↦
          let there = stands_there s nodes ws k page w.in-Some.node c.loop-page-test.true c.page-item.is c.loop-page.invariant.among (λ m on. sym w.in-Some.is ∙ c.place_of.ensures.there m on) in
          subst (λ ns. StandAmong s ns (take (k + 1) ws)) (sym (w.nodes-is ∙ w.insert.ensures)) there
      | in-Some+else-index-lt64 w ↦
          let nowhere = stands_nowhere s nodes ws k page c.loop-page-test.true c.page-item.is c.loop-page.invariant.among
          (λ m few on. past_all _ w.in-Some.node m w.if-index-lt64.false w.index.ensures (some_is (sym w.in-Some.is ∙ c.place_of.ensures.there m on)) few) in
          subst (λ ns. StandAmong s ns (take (k + 1) ws)) (sym w.nodes-is) nowhere
      | in_default w ↦
          let nowhere = stands_nowhere s nodes ws k page c.loop-page-test.true c.page-item.is c.loop-page.invariant.among
          (λ m few on. none_is m (sym w.in_default.is ∙ c.place_of.ensures.there m on)) in
          subst (λ ns. StandAmong s ns (take (k + 1) ws)) (sym w.nodes-is) nowhere
    ] in
    let some : EachHasSome s c.match-place_of.nodes ws = elim c.match-place_of.branch [
      | in-Some+then-index-lt64 w ↦
          subst (λ ns. EachHasSome s ns ws) (sym (w.nodes-is ∙ w.insert.ensures))
          (some_there s nodes ws k page w.in-Some.node c.loop-page-test.true c.page-item.is c.loop-page.invariant.some w.in-Some.ensures.node)
      | in-Some+else-index-lt64 w ↦ subst (λ ns. EachHasSome s ns ws) (sym w.nodes-is) c.loop-page.invariant.some
      | in_default w ↦ subst (λ ns. EachHasSome s ns ws) (sym w.nodes-is) c.loop-page.invariant.some
    ] in
    record { among = among; some = some }

pub returns : goal.returns
returns g c = record {
  all = subst (StandAmong c.args.machine.now c.loop-page.nodes) (take_all c.loop-page.page-index c.args.wanted.now (omega (arith, c.loop-page-test.false))) c.loop-page.invariant.among;
  some = c.loop-page.invariant.some;
}
