use Rattle.nm_runs.proofs.Cuts.{each_batch_has_one_cut}
use Rattle.nm_runs.proofs.laws.each_batch_has_one_cut.Goals as goal

pub returns : goal.returns
returns c = each_batch_has_one_cut
