use Rattle.std.proofs.Common.{◌<◌, subst}
use Rattle.nm_pool.specs.views.Frames.{in_memory}
use Rattle.nm_pool.proofs.Copies.Populated.{keeps_then, homes_then}
use Rattle.nm_pool.proofs.InMemory.{home, inside_both, fill_keeps}
use Rattle.nm_pool.proofs.frames.populate_behind.Goals as goal

pub populate-requires : goal.populate-requires
populate-requires g c =
    let store = c.loop-step.frames in
    let next = c.new-next.result in
    let inside = subst (λ k. k < c.frame_count.result) c.index.ensures c.if-index-frame_count.false in
    home store next (homes_then (in_memory c.args.frames.now) (in_memory store) c.loop-step.invariant c.requires next (inside_both store next c.frame_count.result c.frame_count.ensures.bytes c.frame_count.ensures.buffers inside))

pub loop-step-preserved : goal.loop-step-preserved
loop-step-preserved g c =
    keeps_then (in_memory c.args.frames.now) (in_memory c.loop-step.frames) (in_memory c.populate.new.self) c.loop-step.invariant (fill_keeps c.loop-step.frames c.populate.new.self c.new-next.result c.in-Ok.ensures.ok)
