use Rattle.std.proofs.Common.{refl}
use Rattle.nm_threads.proofs.Sizes.{size_step}
use Rattle.nm_threads.proofs.copying.size_of.Goals as goal

pub loop-job-init : goal.loop-job-init
loop-job-init g c = refl

pub loop-job-preserved : goal.loop-job-preserved
loop-job-preserved g c =
    size_step c.args.jobs.now c.loop-job.job-index c.job-item.result c.loop-job.size c.size.result c.saturating_add-size.result c.loop-job.invariant c.loop-job-test.true c.job-item.is
    c.size.ensures c.saturating_add-size.ensures
