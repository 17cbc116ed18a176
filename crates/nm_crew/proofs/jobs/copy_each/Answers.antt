use Rattle.std.proofs.Common.{arith}
use Rattle.nm_crew.proofs.Steps.{copies_step, copies_end}
use Rattle.nm_crew.proofs.jobs.copy_each.Goals as goal

pub loop-job-preserved : goal.loop-job-preserved
loop-job-preserved g c = copies_step _ _ _ _ _ c.loop-job.invariant (omega arith) c.copy.ensures

pub returns : goal.returns
returns g c = copies_end _ _ c.loop-job.job-index c.loop-job.invariant (omega arith)
