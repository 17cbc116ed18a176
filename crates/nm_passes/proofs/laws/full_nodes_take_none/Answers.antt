use Rattle.nm_passes.proofs.NodesInTurn.FullNodes.{full_node_takes_none, left_would_move, moves_elsewhere, runs_go_by_length, next_pass_takes_none}
use Rattle.nm_passes.proofs.laws.full_nodes_take_none.Goals as goal

pub returns-clause-full : goal.returns-clause-full
returns-clause-full c = full_node_takes_none

pub returns-clause-left : goal.returns-clause-left
returns-clause-left c = left_would_move

pub returns-clause-elsewhere : goal.returns-clause-elsewhere
returns-clause-elsewhere c = moves_elsewhere

pub returns-clause-runs : goal.returns-clause-runs
returns-clause-runs c = runs_go_by_length

pub returns-clause-next : goal.returns-clause-next
returns-clause-next c = next_pass_takes_none
