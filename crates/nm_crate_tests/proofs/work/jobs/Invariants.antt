use Rattle.std.proofs.Common.{◌≡◌, ◌≤◌, vec_len, vec_capacity}
use Rattle.nm_board.specs.Tickets.{InTicketOrder}
use Rattle.nm_crate_tests.proofs.work.jobs.Given as goal

abbrev pub invariant-loop-ticket : goal.invariant-loop-ticket
invariant-loop-ticket g l = InTicketOrder l.jobs.items × (vec_len l.jobs ≡ l.ticket) × (l.count ≤ vec_capacity l.jobs)
