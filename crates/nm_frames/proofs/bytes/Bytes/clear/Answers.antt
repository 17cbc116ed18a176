use Rattle.nm_frames.proofs.Zeros.{zeros_are}
use Rattle.nm_frames.proofs.bytes.Bytes.clear.Goals as goal

pub replace-requires-clause-zeros : goal.replace-requires-clause-zeros
replace-requires-clause-zeros g c = zeros_are 4096 _
