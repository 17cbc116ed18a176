use Rattle.nm_laws.proofs.OneByOne.Looks.{looks_suffice, looks_are_bounded}
use Rattle.nm_laws.proofs.laws.looks_suffice.Goals as goal

pub returns-clause-looks : goal.returns-clause-looks
returns-clause-looks c = looks_suffice

pub returns-clause-bounded : goal.returns-clause-bounded
returns-clause-bounded c = looks_are_bounded
