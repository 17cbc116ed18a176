use Rattle.std.proofs.Common.{[]}
use Rattle.nm_plan.proofs.Closed.{statuses_closed, alike}
use Rattle.nm_plan.proofs.laws.statuses_go_by_page.Goals as goal

pub returns-clause-status : goal.returns-clause-status
returns-clause-status c classes front target = statuses_closed classes target [] front

pub returns-clause-classes : goal.returns-clause-classes
returns-clause-classes c classes front target i j page from other first later = alike classes front target i j page from other first later
