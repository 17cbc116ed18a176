use Rattle.std.proofs.Common.{◌≡◌, ◌<◌, ◌≤◌, ◌+◌, ap, sym, subst, ◌∙◌, arith, get_or, set, take, length, length-set}
use Rattle.std.proofs.lemmas.Grind.{get_or_default_zero}
use Rattle.nm_laws.proofs.Soundness.Audits.{Tallies, few_times, tallied, passed_over}
use Rattle.nm_pool.proofs.audit.tally.Goals as goal
use Rattle.nm_pool.proofs.audit.tally.Goals.{then-index-count, else-index-count}

pub overflow_add-index_mut : goal.overflow_add-index_mut
overflow_add-index_mut g c =
    let cs = c.loop-frame.counts.items in
    let at = c.index-then-index-count.result in
    let here : at < c.args.count = omega (arith, c.index-then-index-count.ensures, c.index.ensures, c.if-index-count.true) in
    let inside : at < length cs = omega (arith, here, c.loop-frame.invariant.length) in
    let value = c.index_mut.ensures.value ∙ get_or_default_zero cs at c.index_mut.result.now inside ∙ c.loop-frame.invariant.times at here in
    let few = few_times c.args.frames.now c.loop-frame.frame-index at in
    omega (arith, value, few, c.loop-frame-test.true, c.loop-frame.auto.frame-index-end)

pub loop-frame-preserved : goal.loop-frame-preserved
loop-frame-preserved g c = elim c.if-index-count.branch [
  | then-index-count w ↦
      let cs = c.loop-frame.counts.items in
      let at = w.index-then-index-count.result in
      let x = c.frame-item.result in
      let v = w.index_mut.result.now in
      let same : at ≡ x = w.index-then-index-count.ensures in
      let here : x < c.args.count = omega (arith, c.index.ensures, w.if-index-count.true) in
      let inside : at < length cs = omega (arith, same, here, c.loop-frame.invariant.length) in
      let value = w.index_mut.ensures.value ∙ get_or_default_zero cs at v inside ∙ ap (λ j. get_or cs j 0) same in
      let items : c.if-index-count.counts.items ≡ set cs x (v + 1) = ap (λ t. t.items) w.counts-is ∙ ap (λ j. set cs j (v + 1)) same in
      record {
        length = ap length items ∙ length-set cs x (v + 1) ∙ c.loop-frame.invariant.length;
        times = subst (λ xs. Tallies xs c.args.count (take (c.loop-frame.frame-index + 1) c.args.frames.now)) (sym items)
            (tallied cs c.args.frames.now c.args.count c.loop-frame.frame-index x (v + 1) c.loop-frame-test.true c.frame-item.is here c.loop-frame.invariant.length c.loop-frame.invariant.times (ap (λ t. t + 1) value));
      }
  | else-index-count w ↦
      let past : c.args.count ≤ c.frame-item.result = omega (arith, c.index.ensures, w.if-index-count.false) in
      let items = ap (λ t. t.items) w.counts-is in
      record {
        length = ap length items ∙ c.loop-frame.invariant.length;
        times = subst (λ xs. Tallies xs c.args.count (take (c.loop-frame.frame-index + 1) c.args.frames.now)) (sym items)
            (passed_over c.loop-frame.counts.items c.args.frames.now c.args.count c.loop-frame.frame-index c.frame-item.result c.loop-frame-test.true c.frame-item.is past c.loop-frame.invariant.times);
      }
]
