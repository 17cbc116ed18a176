use Rattle.nm_types.proofs.Members.{members-zero}
use Rattle.nm_types.proofs.mask.NodeMask.new.Goals as goal

pub returns : goal.returns
returns c = members-zero
