use Rattle.std.proofs.Common.{rules}
use Rattle.nm_areas.proofs.lines.is_shared.Goals as goal

pub returns : goal.returns
returns g c = search rules
