use Rattle.std.proofs.Common.{rules}
use Rattle.nm_nodes.proofs.list.FreeList.take_front.Goals as goal

pub returns-clause-rest : goal.returns-clause-rest
returns-clause-rest g c = search rules

pub returns-clause-front : goal.returns-clause-front
returns-clause-front g c = search rules
