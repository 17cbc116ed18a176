use Rattle.nm_laws.proofs.OneByOne.Planned.{plan_agrees}
use Rattle.nm_laws.proofs.laws.plan_is_one_by_one.Goals as goal

pub returns : goal.returns
returns c = plan_agrees
