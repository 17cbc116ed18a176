use Rattle.std.proofs.Common.{◌≡◌, ◌≤◌, ◌+◌, vec_len, vec_capacity}
use Rattle.nm_threads.specs.Hands.{IsReady}
use Rattle.nm_threads.proofs.copying.hire.Given as goal

abbrev pub invariant-loop : goal.invariant-loop
invariant-loop g l = IsReady l.board l.own × (l.own.shares + l.counter ≡ l.fn.own.shares) × (vec_len l.workers ≡ l.counter) × (l.others ≤ vec_capacity l.workers)
