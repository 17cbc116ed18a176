use Rattle.std.proofs.Common.{rules}
use Rattle.nm_passes.proofs.batch.run_count.Goals as goal

pub returns : goal.returns
returns c = search rules
