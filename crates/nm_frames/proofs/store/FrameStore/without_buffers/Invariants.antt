use Rattle.std.proofs.Common.{◌≡◌, false, Some, replicate}
use Rattle.nm_frames.proofs.store.FrameStore.without_buffers.Given as goal

abbrev pub invariant-loop : goal.invariant-loop
invariant-loop g l = l.unused.items ≡ replicate l.counter (record { bytes = Some (replicate 4096 0); has_buffer = false })
