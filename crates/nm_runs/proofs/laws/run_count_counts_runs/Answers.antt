use Rattle.nm_runs.proofs.Pieces.{run_count_counts_runs}
use Rattle.nm_runs.proofs.laws.run_count_counts_runs.Goals as goal

pub returns : goal.returns
returns c = run_count_counts_runs
