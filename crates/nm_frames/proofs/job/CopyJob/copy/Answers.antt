use Rattle.std.proofs.Common.{rules}
use Rattle.nm_frames.proofs.job.CopyJob.copy.Goals as goal

pub returns : goal.returns
returns g c = search rules
