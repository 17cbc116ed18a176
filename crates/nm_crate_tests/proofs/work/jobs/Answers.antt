use Rattle.std.proofs.Common.{sym, subst, arith}
use Rattle.nm_board.specs.Tickets.{InTicketOrder}
use Rattle.nm_board.proofs.Callers.{in_order_push}
use Rattle.nm_crate_tests.proofs.work.jobs.Goals as goal

pub loop-ticket-preserved : goal.loop-ticket-preserved
loop-ticket-preserved g c =
    let pushed = c.push_reserved.ensures in (
      subst (λ jobs. InTicketOrder jobs) (sym pushed.items) (in_order_push c.loop-ticket.jobs.items c.in_ok-job.job c.loop-ticket.invariant.0 (omega (arith, c.in_ok-job.ensures, c.loop-ticket.invariant.1, c.loop-ticket.jobs.ok))),
      omega (arith, pushed.len, c.loop-ticket.invariant.1),
      omega (arith, pushed.capacity, c.loop-ticket.invariant.2),
    )
