use Rattle.std.proofs.Common.{[]}
use Rattle.nm_plan.proofs.Closed.{taken_closed}
use Rattle.nm_plan.proofs.laws.kth_page_takes_kth_frame.Goals as goal

pub returns : goal.returns
returns c classes front target = taken_closed classes target [] front
