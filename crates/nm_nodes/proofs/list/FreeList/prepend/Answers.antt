use Rattle.std.proofs.Common.{rules}
use Rattle.nm_nodes.proofs.list.FreeList.prepend.Goals as goal

pub returns : goal.returns
returns g c = search rules
