use Rattle.std.proofs.Common.{refl}
use Rattle.nm_types.proofs.numbers.nodes.NodeId.new.Goals as goal

pub returns : goal.returns
returns c = refl
