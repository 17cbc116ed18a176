use Rattle.std.specs.Prelude.{true}
use Rattle.std.proofs.Common.{ap, ◌∙◌, slice_set}
use Rattle.nm_frames.proofs.Stores.{buffer_set}
use Rattle.nm_frames.proofs.store.FrameStore.populate.Goals as goal

pub returns-clause-ok : goal.returns-clause-ok
returns-clause-ok g c =
    buffer_set c.self.inside.frames.items c.index.result c.index_mut.result.now c.fill.new.self c.args.self.now c.index_mut.ensures.value c.fill.ensures c.self.view_is
    ∙ ap (λ k. record (c.args.self.now) { buffers = slice_set c.args.self.now.buffers k true }) c.index.ensures
