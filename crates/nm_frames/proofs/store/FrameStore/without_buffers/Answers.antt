use Rattle.std.proofs.Common.{◌≡◌, ap, ◌∙◌, arith}
use Rattle.std.specs.Prelude.{Some, replicate, false}
use Rattle.nm_frames.specs.Stores.{frames_of_zeros}
use Rattle.nm_frames.proofs.Stores.{alike}
use Rattle.nm_frames.proofs.store.FrameStore.without_buffers.Goals as goal

pub returns-clause-ok : goal.returns-clause-ok
returns-clause-ok g c =
    let all : c.loop.counter ≡ c.args.frames = omega (arith, c.loop.auto.counter-end, c.loop-test.false) in
    alike c.loop.unused.items c.loop.counter (record { bytes = Some (replicate 4096 0); has_buffer = false }) c.loop.invariant ∙ ap (λ n. frames_of_zeros n false) all
