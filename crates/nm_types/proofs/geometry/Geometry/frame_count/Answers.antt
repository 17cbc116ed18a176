use Rattle.std.proofs.Common.{◌≤◌, ap, ◌∙◌, arith, sum}
use Rattle.std.proofs.lemmas.List.{take_all}
use Rattle.std.proofs.lemmas.List.Sums.{sum_by_more, sum_by_more_le}
use Rattle.nm_types.proofs.geometry.Geometry.frame_count.Goals as goal

pub overflow_add-frames : goal.overflow_add-frames
overflow_add-frames g c =
    let few : sum c.deref-size-items.result.now ≤ 16384 = rw c.deref-size-items.ensures.value c.self.invariant.few_frames in
    let more = sum_by_more_le (λ x. x) c.deref-size-items.result.now c.loop-size.size-index 0 c.loop-size-test.true in
    omega (arith, few, more, c.loop-size.invariant.added)

pub loop-size-preserved : goal.loop-size-preserved
loop-size-preserved g c = record {
  same = c.loop-size.invariant.same;
  added = omega (arith, sum_by_more (λ x. x) c.deref-size-items.result.now c.loop-size.size-index 0 c.loop-size-test.true);
}

pub returns : goal.returns
returns g c = c.loop-size.invariant.added ∙ ap sum (take_all c.loop-size.size-index c.deref-size-items.result.now c.loop-size-test.false ∙ c.loop-size.invariant.same)
