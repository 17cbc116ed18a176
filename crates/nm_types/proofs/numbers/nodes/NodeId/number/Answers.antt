use Rattle.std.proofs.Common.{arith}
use Rattle.nm_types.proofs.numbers.nodes.NodeId.number.Goals as goal

pub returns : goal.returns
returns c = omega arith
