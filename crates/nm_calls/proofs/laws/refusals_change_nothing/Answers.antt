use Rattle.nm_calls.proofs.CallLaws.RefusalsChangeNothing.{refusals_change_nothing}
use Rattle.nm_calls.proofs.laws.refusals_change_nothing.Goals as goal

pub returns : goal.returns
returns c = refusals_change_nothing
