use Rattle.std.proofs.Common.{arith}
use Rattle.std.proofs.lemmas.List.Sums.{sum_by_more}
use Rattle.nm_types.proofs.geometry.few_frames.Goals as goal

pub loop-size-preserved : goal.loop-size-preserved
loop-size-preserved c = record {
  added = omega (arith, sum_by_more (λ x. x) c.args.sizes.now c.loop-size.size-index 0 c.loop-size-test.true);
  few = omega arith;
}
