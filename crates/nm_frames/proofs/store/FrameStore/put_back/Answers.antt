use Rattle.std.specs.Prelude.{Some}
use Rattle.std.proofs.Common.{ℕ, List, ap, ◌∙◌, slice_set}
use Rattle.nm_frames.specs.Stores.{StoreView}
use Rattle.nm_frames.proofs.Stores.{bytes_set}
use Rattle.nm_frames.proofs.store.FrameStore.put_back.Goals as goal

pub returns-clause-home : goal.returns-clause-home
returns-clause-home g c =
    let set : ℕ × List ℕ → StoreView = λ buf. record (c.args.self.now) { bytes = slice_set c.args.self.now.bytes buf.0 (Some buf.1) } in
    bytes_set c.self.inside.frames.items c.index.result c.index_mut.result.now c.put.new.self (Some c.buf.inside.bytes) c.args.self.now c.index_mut.ensures.value c.put.ensures.home c.self.view_is
    ∙ ap (λ k. set (k, c.buf.inside.bytes)) c.index.ensures ∙ ap set c.buf.view_is
