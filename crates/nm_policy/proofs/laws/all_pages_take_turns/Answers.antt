use Rattle.nm_policy.proofs.Turned.{all_pages_take_turns}
use Rattle.nm_policy.proofs.laws.all_pages_take_turns.Goals as goal

pub returns : goal.returns
returns c = all_pages_take_turns
