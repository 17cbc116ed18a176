use Rattle.std.proofs.Common.{refl}
use Rattle.nm_laws.proofs.examples.one_page_moves.Goals as goal

pub returns-clause-ends : goal.returns-clause-ends
returns-clause-ends c = (refl, refl)

pub returns-clause-middle : goal.returns-clause-middle
returns-clause-middle c = (refl, refl)

pub returns-clause-two : goal.returns-clause-two
returns-clause-two c = (refl, refl)
