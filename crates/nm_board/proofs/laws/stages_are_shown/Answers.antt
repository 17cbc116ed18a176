use Rattle.nm_board.proofs.Staged.{one_stage}
use Rattle.nm_board.proofs.laws.stages_are_shown.Goals as goal

pub returns : goal.returns
returns g c = one_stage
