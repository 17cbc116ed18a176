use Rattle.nm_calls.proofs.Trails.{trail_is_after_runs}
use Rattle.nm_calls.proofs.laws.trail_is_after_runs.Goals as goal

pub returns : goal.returns
returns c = trail_is_after_runs
