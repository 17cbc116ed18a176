use Rattle.std.proofs.Common.{rules}
use Rattle.nm_tables.proofs.places.Places.first_from.Goals as goal

pub returns-clause-none : goal.returns-clause-none
returns-clause-none c = search rules
