use Rattle.std.proofs.Common.{◌++◌, ap, sym, subst, ◌∙◌}
use Rattle.nm_model.specs.definitions.Frames.{IsHome, bytes_of}
use Rattle.nm_model.specs.definitions.Memory.{stretch_of}
use Rattle.nm_pool.specs.views.Frames.{FramesView}
use Rattle.nm_pool.proofs.Boxed.{seen_alone}
use Rattle.nm_pool.proofs.frames.in_flight.FramesInFlight.read.Goals as goal

pub copy_bytes-requires-clause-frame : goal.copy_bytes-requires-clause-frame
copy_bytes-requires-clause-frame g c = subst (λ (v : FramesView). IsHome v.frames c.args.frame) (sym (seen_alone c.deref-parts.ensures c.self.view_is)) c.requires.frame

pub returns : goal.returns
returns g c =
    c.copy_bytes.ensures ∙ ap (λ (v : FramesView). c.args.bytes.now.items ++ stretch_of (bytes_of v.frames c.args.frame) c.args.at c.args.len) (seen_alone c.deref-parts.ensures c.self.view_is)
