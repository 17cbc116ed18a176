use Rattle.nm_calls.proofs.CallLaws.StaysSound.{calls_stay_sound}
use Rattle.nm_calls.proofs.laws.calls_stay_sound.Goals as goal

pub returns : goal.returns
returns c = calls_stay_sound
