use Rattle.std.proofs.Common.{arith}
use Rattle.nm_tables.proofs.leaf.block_of.Goals as goal

pub returns-clause-number : goal.returns-clause-number
returns-clause-number c = omega arith
