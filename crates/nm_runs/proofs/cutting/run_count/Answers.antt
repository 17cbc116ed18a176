use Rattle.std.proofs.Common.{◌∙◌, arith, take}
use Rattle.nm_runs.proofs.Pieces.{ends_within, one_counted}
use Rattle.nm_runs.proofs.Stretches.{same_nodes}
use Rattle.nm_runs.proofs.cutting.run_count.Goals as goal

pub loop-at-preserved : goal.loop-at-preserved
loop-at-preserved c =
    let same = c.same_nodes-at.ensures in
    record {
      within = ends_within c.args.nodes.now c.split_at.result.1.now c.loop-at.at c.min-most.result _ c.split_at.ensures.back same.within c.loop-at.invariant.within;
      few = omega (arith, same.some, c.loop-at.invariant.few);
      counted =
          one_counted c.args.limit c.loop-at.count c.args.nodes.now c.split_at.result.1.now c.loop-at.at c.min-most.result c.same_nodes-at.result c.requires c.split_at.ensures.back c.min-most.ensures same.some same.within
          (same.front ∙ same_nodes (take c.min-most.result c.split_at.result.1.now) (omega (arith, same.some, same.within))) c.loop-at.invariant.counted;
    }
