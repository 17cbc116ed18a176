use Rattle.std.proofs.Common.{take}
use Rattle.nm_threads.specs.Others.{IsSizeOfAll}
use Rattle.nm_threads.proofs.copying.size_of.Given as goal

abbrev pub invariant-loop-job : goal.invariant-loop-job
invariant-loop-job g l = IsSizeOfAll (take l.job-index l.jobs) l.size
