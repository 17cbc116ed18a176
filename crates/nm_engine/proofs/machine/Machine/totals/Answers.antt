use Rattle.std.proofs.Common.{rules}
use Rattle.nm_engine.proofs.machine.Machine.totals.Goals as goal

pub returns-clause-moved : goal.returns-clause-moved
returns-clause-moved g c = search rules

pub returns-clause-failed : goal.returns-clause-failed
returns-clause-failed g c = search rules
