use Rattle.std.proofs.Common.{◌≡◌, ◌++◌, map, take, drop}
use Rattle.nm_frames.specs.Job.{job_after_copy}
use Rattle.nm_crew.proofs.jobs.copy_each.Given as goal

abbrev pub invariant-loop-job : goal.invariant-loop-job
invariant-loop-job g l = l.job-items ≡ map job_after_copy (take l.job-index l.fn.jobs) ++ drop l.job-index l.fn.jobs
