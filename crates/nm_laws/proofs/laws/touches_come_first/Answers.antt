use Rattle.std.proofs.Common.{refl}
use Rattle.nm_laws.proofs.Early.Later.{touches_first}
use Rattle.nm_laws.proofs.Early.Phases.{phased}
use Rattle.nm_laws.proofs.laws.touches_come_first.Goals as goal

pub returns-clause-first : goal.returns-clause-first
returns-clause-first c = λ s l moved accesses h. touches_first l moved accesses s h

pub returns-clause-later : goal.returns-clause-later
returns-clause-later c = λ s target taken accesses h inside can.
    let run = phased s target taken accesses h inside can in
    (run.flight, run.due)

pub returns-clause-ready : goal.returns-clause-ready
returns-clause-ready c = (refl, refl)
