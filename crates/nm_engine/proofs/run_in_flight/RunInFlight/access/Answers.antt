use Rattle.std.proofs.Common.{rules}
use Rattle.nm_pool.specs.views.Accesses.{pending_shown}
use Rattle.nm_engine.proofs.InFlight.Moments.{makes}
use Rattle.nm_engine.proofs.run_in_flight.RunInFlight.access.Goals as goal

pub returns-in-Known-clause-run : goal.returns-in-Known-clause-run
returns-in-Known-clause-run g c = search rules

pub returns-in-Known-clause-answer : goal.returns-in-Known-clause-answer
returns-in-Known-clause-answer g c = search rules

pub returns-in-Known-clause-event : goal.returns-in-Known-clause-event
returns-in-Known-clause-event g c m a jobs out now can =
    makes m c.args.self.now jobs a (pending_shown c.args.due) _ _ (returns-in-Known-clause-run g c) (returns-in-Known-clause-answer g c) out now c.requires.due can

pub returns-in-Read-clause-run : goal.returns-in-Read-clause-run
returns-in-Read-clause-run g c = search rules

pub returns-in-Read-clause-answer : goal.returns-in-Read-clause-answer
returns-in-Read-clause-answer g c = search rules

pub returns-in-Read-clause-event : goal.returns-in-Read-clause-event
returns-in-Read-clause-event g c m a jobs out now can =
    makes m c.args.self.now jobs a (pending_shown c.args.due) _ _ (returns-in-Read-clause-run g c) (returns-in-Read-clause-answer g c) out now c.requires.due can

pub returns-in-Write-clause-run : goal.returns-in-Write-clause-run
returns-in-Write-clause-run g c = search rules

pub returns-in-Write-clause-answer : goal.returns-in-Write-clause-answer
returns-in-Write-clause-answer g c = search rules

pub returns-in-Write-clause-event : goal.returns-in-Write-clause-event
returns-in-Write-clause-event g c m a jobs out now can =
    makes m c.args.self.now jobs a (pending_shown c.args.due) _ _ (returns-in-Write-clause-run g c) (returns-in-Write-clause-answer g c) out now c.requires.due can
