use Rattle.nm_calls.proofs.NodesOffline.AnyNodesOnline.{runs_ignore_online}
use Rattle.nm_calls.proofs.laws.runs_ignore_online.Goals as goal

pub returns : goal.returns
returns c = runs_ignore_online
