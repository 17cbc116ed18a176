use Rattle.std.proofs.Common.{List, map, sym, subst, ◌∙◌}
use Rattle.nm_frames.specs.declared.job.CopyJob.{CopyJob}
use Rattle.nm_frames.specs.Job.{job_after_copy}
use Rattle.nm_pool.specs.definitions.AfterCopy.{all_stored_after_copy}
use Rattle.nm_pool.specs.views.Accesses.{pending_shown}
use Rattle.nm_engine.specs.views.Flights.{Flight, AreOutIn, state_in_flight, with_store}
use Rattle.nm_engine.proofs.InFlight.Flights.{answers_then, state_then, out_then, out_done, state_done}
use Rattle.nm_engine.proofs.InFlight.Moments.{flies_so}
use Rattle.nm_engine.proofs.run_in_flight.RunInFlight.copy_beside.Goals as goal

pub copy_while-jobs-requires-clause-work : goal.copy_while-jobs-requires-clause-work
copy_while-jobs-requires-clause-work g c = c.requires.can

pub returns-clause-out : goal.returns-clause-out
returns-clause-out g c =
    let x = c.args.self in
    let jobs = c.args.jobs.items in
    let all_due = map pending_shown c.args.all_due.items in
    let done = out_done (with_store x (all_stored_after_copy x.spaces.place x.frames.frames all_due).store) jobs (out_then x jobs all_due c.requires.out c.requires.can.can) in
    subst (λ (js : List (CopyJob g.row.A.Denot)). AreOutIn c.copy_while-jobs.result.1.0 js) (sym c.copy_while-jobs.ensures.jobs)
    (subst (λ (y : Flight). AreOutIn y (map job_after_copy jobs)) (sym c.copy_while-jobs.ensures.work.run) done)

pub returns-clause-state : goal.returns-clause-state
returns-clause-state g c =
    let x = c.args.self in
    let jobs = c.args.jobs.items in
    let all_due = map pending_shown c.args.all_due.items in
    (λ i. state_in_flight (c.copy_while-jobs.ensures.work.run i) (c.copy_while-jobs.ensures.jobs i))
    ∙ state_done (with_store x (all_stored_after_copy x.spaces.place x.frames.frames all_due).store) jobs ∙ state_then x jobs all_due c.requires.out c.requires.can.can

pub returns-clause-answers : goal.returns-clause-answers
returns-clause-answers g c =
    let jobs = c.args.jobs.items in
    let all_due = map pending_shown c.args.all_due.items in
    c.copy_while-jobs.ensures.work.answers ∙ answers_then c.args.self jobs all_due c.requires.out c.requires.can.can

pub returns-clause-run : goal.returns-clause-run
returns-clause-run g c = c.copy_while-jobs.ensures.work.run

pub returns-clause-event : goal.returns-clause-event
returns-clause-event g c m n events now leads on done =
    flies_so m c.args.self c.args.jobs.items n events (map pending_shown c.args.all_due.items) c.copy_while-jobs.result.1.0 c.copy_while-jobs.result.0.items _ c.copy_while-jobs.ensures.work.run
    (returns-clause-state g c) (returns-clause-answers g c) now leads on done
