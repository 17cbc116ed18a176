use Rattle.nm_laws.proofs.Seen.Written.{writing_is_exact}
use Rattle.nm_laws.proofs.laws.writes_are_exact.Goals as goal

pub returns : goal.returns
returns c = writing_is_exact
