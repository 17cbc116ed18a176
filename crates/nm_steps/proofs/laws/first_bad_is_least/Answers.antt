use Rattle.nm_steps.proofs.Least.{first_bad_is_least}
use Rattle.nm_steps.proofs.laws.first_bad_is_least.Goals as goal

pub returns : goal.returns
returns c = first_bad_is_least
