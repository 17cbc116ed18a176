use Rattle.nm_frames.proofs.Zeros.{as_many, zeros_are}
use Rattle.nm_frames.proofs.bytes.Bytes.zeros.Goals as goal

pub invariant_of-result : goal.invariant_of-result
invariant_of-result g c = rw (c.in_ok-bytes.ensures.ok) (as_many 4096, c.whole.ensures.fits, zeros_are 4096 _)
