use Rattle.nm_pool.specs.views.Frames.{KeepsBytes, in_memory}
use Rattle.nm_pool.proofs.frames.populate_behind.Given as goal

abbrev pub invariant-loop-step : goal.invariant-loop-step
invariant-loop-step g l = KeepsBytes (in_memory l.fn.frames) (in_memory l.frames)
