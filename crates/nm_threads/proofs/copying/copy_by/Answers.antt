use Rattle.std.proofs.Common.{rules}
use Rattle.nm_threads.proofs.copying.copy_by.Goals as goal

pub returns-clause-jobs : goal.returns-clause-jobs
returns-clause-jobs g c = search rules
