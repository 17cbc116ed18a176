use Rattle.std.proofs.Common.{ap, ◌∙◌, ℕ, List, Some, None}
use Rattle.std.proofs.lemmas.List.{set-set}
use Rattle.nm_model.specs.definitions.Frames.{bytes_of, overwrite}
use Rattle.nm_frames.proofs.store.FrameStore.write.Goals as goal

pub returns : goal.returns
returns g c =
    let same = ap (λ (b : ℕ × List ℕ). b.0) (c.buf.view_is ∙ c.take_out-buf.ensures.buf) in
    let bytes = ap (λ (b : ℕ × List ℕ). b.1) (c.buf.view_is ∙ c.take_out-buf.ensures.buf) in
    let store = c.args.self.now in
    rw (c.put_back.ensures.home, c.write.ensures, c.take_out-buf.ensures.out, same, bytes)
    (ap (λ bytes. record store { bytes = bytes }) (set-set store.bytes c.args.frame None (Some (overwrite (bytes_of store.bytes c.args.frame) c.args.at c.args.bytes.now))))
