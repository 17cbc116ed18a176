use Rattle.std.proofs.Common.{◌≡◌, true, Some, replicate}
use Rattle.nm_frames.proofs.store.FrameStore.new.Given as goal

abbrev pub invariant-loop : goal.invariant-loop
invariant-loop g l = l.slots.items ≡ replicate l.counter (record { bytes = Some (replicate 4096 0); has_buffer = true })
