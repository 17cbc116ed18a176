use Rattle.nm_laws.proofs.Soundness.Sounded.{sound_is_audited}
use Rattle.nm_laws.proofs.laws.sound_is_audited.Goals as goal

pub returns : goal.returns
returns c = sound_is_audited
