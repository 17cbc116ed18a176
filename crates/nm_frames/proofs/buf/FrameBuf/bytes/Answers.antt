use Rattle.std.proofs.Common.{ℕ, List, ap, ◌∙◌}
use Rattle.nm_frames.proofs.buf.FrameBuf.bytes.Goals as goal

pub returns-clause-value : goal.returns-clause-value
returns-clause-value g c = c.as_slice.ensures.value ∙ ap (λ (b : ℕ × List ℕ). b.1) c.self.view_is
