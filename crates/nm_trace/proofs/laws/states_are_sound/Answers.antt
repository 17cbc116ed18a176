use Rattle.nm_trace.proofs.Headlines as headline
use Rattle.nm_trace.proofs.laws.states_are_sound.Goals as goal

pub returns : goal.returns
returns c = headline.states_are_sound
