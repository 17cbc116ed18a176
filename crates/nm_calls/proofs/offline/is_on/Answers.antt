use Rattle.std.proofs.Common.{rules}
use Rattle.nm_calls.proofs.offline.is_on.Goals as goal

pub returns-in-Some : goal.returns-in-Some
returns-in-Some g c = search rules
