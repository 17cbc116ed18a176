use Rattle.std.proofs.Common.{◌≡◌, ◌-◌, length}
use Rattle.nm_threads.specs.Hands.{IsReady}
use Rattle.nm_threads.proofs.Tickets.{beyond}
use Rattle.nm_threads.proofs.worker.work_off.Given as goal

abbrev pub invariant-loop-job : goal.invariant-loop-job
invariant-loop-job g l = IsReady l.board l.hand × (l.hand.shares ≡ l.fn.hand.shares)

abbrev pub decreases-loop-job : goal.decreases-loop-job
decreases-loop-job g l = length l.board.jobs - beyond l.hand.drawn
