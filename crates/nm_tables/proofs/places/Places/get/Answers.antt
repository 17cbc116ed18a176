use Rattle.std.proofs.Common.{rules}
use Rattle.nm_tables.proofs.places.Places.get.Goals as goal

pub returns-then-marked : goal.returns-then-marked
returns-then-marked c = search rules
