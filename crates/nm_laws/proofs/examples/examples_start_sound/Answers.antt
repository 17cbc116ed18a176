use Rattle.nm_laws.proofs.Soundness.Starts.{starts_are_sound}
use Rattle.nm_laws.proofs.examples.examples_start_sound.Goals as goal

pub returns : goal.returns
returns c = starts_are_sound
