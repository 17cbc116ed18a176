use Rattle.std.proofs.Common.{rules}
use Rattle.nm_types.proofs.errno.ErrnoDisplay.fmt.Goals as goal

pub returns : goal.returns
returns g c = search rules
