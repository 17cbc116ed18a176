use Rattle.std.proofs.Common.{◌≡◌, drop}
use Rattle.nm_pool.specs.views.Frames.{CanFree, with_freed}
use Rattle.nm_pool.proofs.frames.free_frames.Given as goal

abbrev pub invariant-loop-frame : goal.invariant-loop-frame
invariant-loop-frame g l = record {
  can : CanFree l.nodes (drop l.frame-index l.frames);
  freed : with_freed l.nodes (drop l.frame-index l.frames) ≡ with_freed l.fn.nodes l.frames;
}
