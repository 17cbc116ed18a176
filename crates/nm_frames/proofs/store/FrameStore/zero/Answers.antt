use Rattle.std.proofs.Common.{ap, ◌∙◌, ℕ, List, Some, None, replicate}
use Rattle.std.proofs.lemmas.List.{set-set}
use Rattle.nm_frames.proofs.store.FrameStore.zero.Goals as goal

pub returns : goal.returns
returns g c =
    let same = ap (λ (b : ℕ × List ℕ). b.0) (c.buf.view_is ∙ c.take_out-buf.ensures.buf) in
    rw (c.put_back.ensures.home, c.clear.ensures, c.take_out-buf.ensures.out, same)
    (ap (λ bytes. record (c.args.self.now) { bytes = bytes }) (set-set c.args.self.now.bytes c.args.frame None (Some (replicate 4096 0))))
