use Rattle.std.proofs.Common.{rules}
use Rattle.nm_calls.proofs.migrate.targets_of.Goals as goal

pub returns-clause-targets : goal.returns-clause-targets
returns-clause-targets g c = search rules
