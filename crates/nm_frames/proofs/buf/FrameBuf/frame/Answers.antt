use Rattle.std.proofs.Common.{ℕ, List, ap}
use Rattle.nm_frames.proofs.buf.FrameBuf.frame.Goals as goal

pub returns : goal.returns
returns g c = ap (λ (b : ℕ × List ℕ). b.0) c.self.view_is
