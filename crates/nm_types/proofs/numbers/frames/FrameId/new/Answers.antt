use Rattle.std.proofs.Common.{refl}
use Rattle.nm_types.proofs.numbers.frames.FrameId.new.Goals as goal

pub returns : goal.returns
returns c = refl
