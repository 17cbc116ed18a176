use Rattle.nm_runs.proofs.Pieces.{each_limit_cuts}
use Rattle.nm_runs.proofs.laws.each_limit_cuts.Goals as goal

pub returns : goal.returns
returns c = each_limit_cuts
