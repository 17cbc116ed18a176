use Rattle.std.proofs.Common.{◌≡◌, ◌+◌, vec_len}
use Rattle.nm_threads.specs.Hands.{HasNoJob}
use Rattle.nm_threads.proofs.copying.gather.Given as goal

abbrev pub invariant-loop-worker : goal.invariant-loop-worker
invariant-loop-worker g l = HasNoJob l.board l.own.shares l.own × (l.own.shares + vec_len l.workers ≡ l.fn.own.shares + vec_len l.fn.workers)

abbrev pub decreases-loop-worker : goal.decreases-loop-worker
decreases-loop-worker g l = goal.left-loop-worker g l
