use Rattle.std.proofs.Common.{[], refl}
use Rattle.nm_plan.proofs.Short.{short_then}
use Rattle.nm_plan.proofs.laws.none_is_free_again.Goals as goal

pub returns : goal.returns
returns c classes front target i j first page from other below at short later new = short_then classes target i j first page from other below [] front at short later refl new
