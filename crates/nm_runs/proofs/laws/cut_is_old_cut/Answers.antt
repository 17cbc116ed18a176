use Rattle.nm_runs.proofs.Pieces.{cut_is_old_cut}
use Rattle.nm_runs.proofs.laws.cut_is_old_cut.Goals as goal

pub returns : goal.returns
returns c = cut_is_old_cut
