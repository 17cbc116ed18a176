use Rattle.nm_policy.proofs.Turned.{one_node_takes_all}
use Rattle.nm_policy.proofs.laws.one_node_takes_all.Goals as goal

pub returns : goal.returns
returns c = one_node_takes_all
