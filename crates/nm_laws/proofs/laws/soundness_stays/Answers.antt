use Rattle.nm_laws.proofs.Soundness.Touched.{access_sound}
use Rattle.nm_laws.proofs.Soundness.Ran.{run_sound, batch_sound}
use Rattle.nm_laws.proofs.laws.soundness_stays.Goals as goal

pub returns-clause-accesses : goal.returns-clause-accesses
returns-clause-accesses c = access_sound

pub returns-clause-runs : goal.returns-clause-runs
returns-clause-runs c = run_sound

pub returns-clause-batches : goal.returns-clause-batches
returns-clause-batches c = batch_sound
