use Rattle.std.proofs.Common.{rules}
use Rattle.nm_calls.proofs.offline.check_offline.Goals as goal

pub returns-clause-exact : goal.returns-clause-exact
returns-clause-exact g c = search rules
