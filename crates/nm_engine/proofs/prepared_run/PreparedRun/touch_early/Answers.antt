use Rattle.std.proofs.Common.{rules}
use Rattle.nm_engine.proofs.prepared_run.PreparedRun.touch_early.Goals as goal

pub returns-in-Read-clause-touched : goal.returns-in-Read-clause-touched
returns-in-Read-clause-touched g c = search rules
