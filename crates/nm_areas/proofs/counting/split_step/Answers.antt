use Rattle.nm_areas.proofs.Counted.{err_always}
use Rattle.nm_areas.proofs.counting.split_step.Goals as goal

pub returns-in-Some-clause-allocates : goal.returns-in-Some-clause-allocates
returns-in-Some-clause-allocates g c = err_always c.mark.result c.in-Some.ensures.split
