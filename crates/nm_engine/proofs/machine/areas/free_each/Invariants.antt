use Rattle.std.proofs.Common.{◌≡◌, drop}
use Rattle.nm_pool.specs.views.Frames.{pool_of, CanFree, with_freed}
use Rattle.nm_engine.proofs.MidRun.LostFrames.{frames_of}
use Rattle.nm_engine.proofs.machine.areas.free_each.Given as goal

abbrev pub invariant-loop-frame : goal.invariant-loop-frame
invariant-loop-frame g l = record {
  can : CanFree (pool_of l.frames) (frames_of (drop l.frame-index l.freed));
  freed : with_freed (pool_of l.frames) (frames_of (drop l.frame-index l.freed)) ≡ with_freed (pool_of l.fn.frames) (frames_of l.freed);
  same : l.frames ≡ record (l.fn.frames) { free = l.frames.free };
}
