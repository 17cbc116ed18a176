use Rattle.std.specs.Prelude.{None}
use Rattle.std.proofs.Common.{ap, ◌∙◌, slice_set}
use Rattle.nm_frames.proofs.Stores.{bytes_set}
use Rattle.nm_frames.proofs.store.FrameStore.take_out.Goals as goal

pub returns-clause-out : goal.returns-clause-out
returns-clause-out g c =
    bytes_set c.self.inside.frames.items c.index.result c.index_mut.result.now c.take-bytes.new.self None c.args.self.now c.index_mut.ensures.value c.take-bytes.ensures.out c.self.view_is
    ∙ ap (λ k. record (c.args.self.now) { bytes = slice_set c.args.self.now.bytes k None }) c.index.ensures
