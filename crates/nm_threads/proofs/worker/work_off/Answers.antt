use Rattle.std.proofs.Common.{◌≡◌, ◌<◌, [], ◌∷◌, ◌++◌, length, ap, ◌∙◌, arith, rules}
use Rattle.std.proofs.lemmas.Option.{slice_get_within}
use Rattle.nm_board.proofs.Callers.{can_give}
use Rattle.nm_threads.proofs.Tickets.{beyond, beyond_at_most, beyond_last}
use Rattle.nm_threads.proofs.worker.work_off.Goals as goal

pub give-requires-clause-job : goal.give-requires-clause-job
give-requires-clause-job g c = can_give c.args.board.now.jobs c.in-Some.job c.copy.new.self (search (rules, c.in-Some.ensures.job.laid, c.loop-job.invariant.0.own)) c.copy.ensures

pub loop-job-smaller : goal.loop-job-smaller
loop-job-smaller g c =
    let drew = c.in-Some.ensures.job in
    let laid : c.in-Some.job.ticket < length c.loop-job.hand.board.jobs = slice_get_within c.loop-job.hand.board.jobs c.in-Some.job.ticket c.in-Some.job drew.laid in
    let before = beyond_at_most c.loop-job.hand.drawn c.in-Some.job.ticket drew.above in
    let after = beyond_last c.loop-job.hand.drawn c.in-Some.job.ticket in
    let drawn : c.give.new.hand.drawn ≡ c.loop-job.hand.drawn ++ c.in-Some.job.ticket ∷ [] = ap (λ h. h.drawn) (c.give.ensures) ∙ ap (λ h. h.drawn) drew.now in
    omega (arith, ap beyond drawn, ap (λ b. length b.jobs) c.loop-job.invariant.0.own)
