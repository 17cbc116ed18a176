use Rattle.std.proofs.Common.{◌≡◌}
use Rattle.std.specs.Prelude.{vec_len, vec_capacity}
use Rattle.nm_pool.specs.views.Copies.{CanRefill, with_jobs_back}
use Rattle.nm_pool.specs.views.Frames.{in_memory}
use Rattle.nm_pool.proofs.frames.in_flight.put_back_each.Given as goal

abbrev pub invariant-loop-job : goal.invariant-loop-job
invariant-loop-job g l = record {
  can : CanRefill (in_memory l.frames) l.jobs.items;
  frames : with_jobs_back (in_memory l.frames) l.jobs.items ≡ with_jobs_back (in_memory l.fn.frames) l.fn.jobs.items;
  room : vec_capacity l.jobs ≡ vec_capacity l.fn.jobs;
}

abbrev pub decreases-loop-job : goal.decreases-loop-job
decreases-loop-job g l = vec_len l.jobs
