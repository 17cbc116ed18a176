use Rattle.nm_board.proofs.Staged.{draw_takes, late_takes, give_returns, split_changes, join_changes}
use Rattle.nm_board.proofs.Machined.{draw_is, give_is}
use Rattle.nm_board.proofs.laws.steps_are_events.Goals as goal

pub returns : goal.returns
returns g c = record { draw = draw_takes; late = late_takes; give = give_returns; split = split_changes; join = join_changes; machines = draw_is; given = give_is }
