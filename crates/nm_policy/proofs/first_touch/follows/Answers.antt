use Rattle.std.proofs.Common.{rules}
use Rattle.nm_policy.proofs.first_touch.follows.Goals as goal

pub returns-in-Bind : goal.returns-in-Bind
returns-in-Bind c = search rules
