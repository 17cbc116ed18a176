use Rattle.std.proofs.Common.{◌≡◌, ℕ, ◌+◌, ◌<◌, List, [], ◌∷◌, map, length, refl, ap, sym, subst, ◌∙◌, arith}
use Rattle.std.specs.List.{AllByRecursion}
use Rattle.std.proofs.lemmas.List.{length-map}
use Rattle.nm_types.specs.Layout.{node_count}
use Rattle.nm_types.specs.State.{State}
use Rattle.nm_types.specs.declared.request.Wanted.{Wanted}
use Rattle.nm_types.specs.declared.page_move.PageMove.{PageMove}
use Rattle.nm_frames.specs.declared.job.CopyJob.{CopyJob}
use Rattle.nm_frames.specs.Job.{job_after_copy}
use Rattle.nm_laws.specs.Laws.{with_moves}
use Rattle.nm_laws.specs.Moves.{CanMove, IsPlanOf}
use Rattle.nm_laws.proofs.Early.Flown.{run_state, run_answers}
use Rattle.nm_laws.proofs.Early.Phases.{IsPhased, pages_of, touched_all, given_back, planned_phases}
use Rattle.nm_laws.proofs.Early.Ready.{all_layout}
use Rattle.nm_model.specs.definitions.BeforeCopy.{PendingAccess, all_after_copy, without_fronts, with_fronts, frames_taken, IsPending}
use Rattle.nm_model.specs.definitions.Decide.{RunPlan}
use Rattle.nm_model.specs.definitions.Run.{failures, frames_left, run, with_all_free, with_counts}
use Rattle.nm_model.specs.definitions.Sound.{IsSound}
use Rattle.nm_model.specs.definitions.Touch.{Access, AccessResults, all_in_flight}
use Rattle.nm_pool.specs.views.Accesses.{answer_shown, pending_shown}
use Rattle.nm_engine.specs.views.Flights.{EndsAs, Flight, HoldsMovingPages, IsReadyFor, pair_of, state_in_flight}
use Rattle.nm_engine.specs.views.RunState.{RunState}
use Rattle.nm_engine.specs.views.Runs.{accesses_shown, asked_by}
use Rattle.nm_engine.proofs.Early.{early_state, early_dues, early_left, early_room}
use Rattle.nm_engine.proofs.Runs.ByEvents.{goes_by_events}
use Rattle.nm_engine.proofs.InFlight.Flights.{copied_twice}
use Rattle.nm_engine.proofs.planned_run.make_run.Given.{Over}
use Rattle.nm_engine.proofs.planned_run.make_run.Goals.{In-Ok, After-into_statuses}
use Rattle.nm_engine.proofs.planned_run.make_run.Goals as goal

-- a job's copy is between the same frames
still_pairs : {A : Type 0} (jobs : List (CopyJob A)) → map pair_of (map job_after_copy jobs) ≡ map pair_of jobs
still_pairs [] = refl
still_pairs (job ∷ jobs) = ap (λ ps. pair_of job ∷ ps) (still_pairs jobs)

-- what holds of each thing that is left to do
all_by : {P Q : PendingAccess → Type 0} (ds : List PendingAccess) → ((d : PendingAccess) → P d → Q d) → AllByRecursion P ds → AllByRecursion Q ds
all_by [] each all = tt
all_by (d ∷ ds) each all = (each d all.0, all_by ds each all.1)

pub prepare-requires-clause-target : goal.prepare-requires-clause-target
prepare-requires-clause-target g c = subst (λ (s : State). c.args.planned.requests.now.target < node_count s.layout) (sym c.of-run.ensures.state) c.requires.target

pub prepare-requires-clause-none : goal.prepare-requires-clause-none
prepare-requires-clause-none g c = c.of-run.ensures.left

pub prepare-requires-clause-moves : goal.prepare-requires-clause-moves
prepare-requires-clause-moves g c =
    let t = c.args.planned.requests.now.target in
    subst (λ (ms : List PageMove). CanMove c.of-run.result.state t ms) (sym c.moves-moves.ensures) (subst (λ (x : State). CanMove x t c.args.planned.plan.taken) (sym c.of-run.ensures.state) c.requires.plan.can)

-- the run is ready to begin where its accesses have been touched
ready_for : (x : RunState) (r s : State) (t : ℕ) (moves : List PageMove) (accesses : List Access) → r ≡ s → t < node_count s.layout → x.left ≡ frames_taken moves → x.state ≡ (touched_all r t moves accesses).state
    → IsSound (given_back r t moves accesses) → CanMove (given_back r t moves accesses) t moves → IsReadyFor x t moves
ready_for x r s t moves accesses at inside taken touched back can =
    let nodes = ap (λ (z : State). node_count z.layout) at in
    let stays = ap (λ (z : State). node_count z.layout) touched ∙ ap node_count (all_layout (pages_of moves) accesses (without_fronts r t (length moves))) in
    record {
      node = omega (arith, nodes, stays, inside);
      taken = taken;
      sound = subst (λ (z : State). IsSound (with_fronts z t (frames_taken moves))) (sym touched) back;
      can = subst (λ (z : State). CanMove (with_fronts z t (frames_taken moves)) t moves) (sym touched) can;
    }

-- the phases of the run are those of its plan
phases : (g : Over) (c : In-Ok g)
    → IsPhased c.of-run.result.state c.args.planned.requests.now.target c.moves-moves.result.now (accesses_shown {A = g.row.A.Denot} c.args.planned.accesses.now)
phases g c =
    let moves : List PageMove = c.moves-moves.result.now in
    let accesses : List Access = accesses_shown {A = g.row.A.Denot} c.args.planned.accesses.now in
    (planned_phases c.of-run.result.state c.args.planned.requests.now.target moves accesses c.args.machine c.args.planned.requests.now.wanted.items c.args.planned.plan c.of-run.ensures.state c.requires.plan c.moves-moves.ensures c.in-Ok.ensures.sound c.requires.target).1

ready : (g : Over) (c : In-Ok g) → IsReadyFor c.prepare.new.self c.args.planned.requests.now.target c.moves-moves.result.now
ready g c =
    let run = c.of-run.result in
    let t = c.args.planned.requests.now.target in
    let moves : List PageMove = c.moves-moves.result.now in
    let accesses : List Access = accesses_shown {A = g.row.A.Denot} c.args.planned.accesses.now in
    let done = c.in-Ok.ensures.prepares in
    ready_for c.prepare.new.self run.state c.args.machine t moves accesses c.of-run.ensures.state c.requires.target (early_left run t moves accesses c.prepare.new.self c.in-Ok.all_due done) (early_state run t moves accesses c.prepare.new.self c.in-Ok.all_due done) (phases g c).back (phases g c).can

pub begin-run-requires-clause-ready : goal.begin-run-requires-clause-ready
begin-run-requires-clause-ready g c κs within = (c.args.planned.requests.now.target, ready g (goal.at.begin-run-requires-clause-ready g c).In-Ok)

pub begin-run-requires-clause-few : goal.begin-run-requires-clause-few
begin-run-requires-clause-few g c κs within =
    early_room c.of-run.result c.args.planned.requests.now.target c.moves-moves.result.now (accesses_shown {A = g.row.A.Denot} c.args.planned.accesses.now) c.prepare.new.self c.in-Ok.all_due c.in-Ok.ensures.prepares

pub copy_beside-run-requires-clause-can : goal.copy_beside-run-requires-clause-can
copy_beside-run-requires-clause-can g c κs within =
    let t = c.args.planned.requests.now.target in
    let moves : List PageMove = c.moves-moves.result.now in
    let accesses : List Access = accesses_shown {A = g.row.A.Denot} c.args.planned.accesses.now in
    let many : length accesses ≡ length c.args.planned.accesses.now = length-map c.args.planned.accesses.now _ in
    record {
      can =
          all_by (map pending_shown c.in-Ok.all_due.items) c.begin-run.ensures.pending
          (subst (λ (ds : List PendingAccess). AllByRecursion (IsPending (pages_of moves) c.prepare.new.self.state) ds) (sym (early_dues c.of-run.result t moves accesses c.prepare.new.self c.in-Ok.all_due c.in-Ok.ensures.prepares))
          (subst (λ (x : State). AllByRecursion (IsPending (pages_of moves) x) (touched_all c.of-run.result.state t moves accesses).all_due) (sym (early_state c.of-run.result t moves accesses c.prepare.new.self c.in-Ok.all_due c.in-Ok.ensures.prepares)) (phases g (goal.at.copy_beside-run-requires-clause-can g c).In-Ok).due));
      room = c.in-Ok.ensures.prepares.touches.room;
      unanswered = c.requires.empty;
      space = omega (arith, c.in-Ok.ensures.prepares.touches.len, many, c.requires.room);
    }

pub copy_beside-run-requires-clause-out : goal.copy_beside-run-requires-clause-out
copy_beside-run-requires-clause-out g c κs within = c.begin-run.ensures.out

pub copy_beside-run-requires-clause-tickets : goal.copy_beside-run-requires-clause-tickets
copy_beside-run-requires-clause-tickets g c κs within = c.begin-run.ensures.tickets

pub finish-machine-requires-clause-out : goal.finish-machine-requires-clause-out
finish-machine-requires-clause-out g c κs within = c.copy_beside-run.ensures.out

pub finish-machine-requires-clause-done : goal.finish-machine-requires-clause-done
finish-machine-requires-clause-done g c κs within =
    let is = c.copy_beside-run.ensures.jobs in
    ap (λ (js : List (CopyJob g.row.A.Denot)). map job_after_copy js) is ∙ copied_twice c.begin-run.result.1.items ∙ sym is

pub returns-in-Ok-clause-failed : goal.returns-in-Ok-clause-failed
returns-in-Ok-clause-failed g c = c.finish-machine.ensures.failed ∙ ap failures (c.statuses.ensures ∙ sym c.into_statuses.ensures)

-- what was left to do for accesses, done where the pages have moved, is what accesses in flight do
as_in_flight : (g : Over) (c : After-into_statuses g) → IsReadyFor c.prepare.new.self c.args.planned.requests.now.target c.moves-moves.result.now
    → IsPhased c.of-run.result.state c.args.planned.requests.now.target c.moves-moves.result.now (accesses_shown {A = g.row.A.Denot} c.args.planned.accesses.now)
    → all_after_copy (state_in_flight c.begin-run.result.0 c.begin-run.result.1.items) (map pending_shown c.in-Ok.all_due.items)
    ≡ all_in_flight (with_moves c.of-run.result.state c.args.planned.requests.now.target c.moves-moves.result.now) (pages_of c.moves-moves.result.now) (accesses_shown {A = g.row.A.Denot} c.args.planned.accesses.now)
as_in_flight g c ready_now phased =
    let t = c.args.planned.requests.now.target in
    let moves : List PageMove = c.moves-moves.result.now in
    let accesses : List Access = accesses_shown {A = g.row.A.Denot} c.args.planned.accesses.now in
    let touched = early_state c.of-run.result t moves accesses c.prepare.new.self c.in-Ok.all_due c.in-Ok.ensures.prepares in
    let told = early_dues c.of-run.result t moves accesses c.prepare.new.self c.in-Ok.all_due c.in-Ok.ensures.prepares in
    ap (λ (x : State). all_after_copy x (map pending_shown c.in-Ok.all_due.items)) (c.begin-run.ensures.state t ready_now)
    ∙ (λ i. all_after_copy (with_moves (with_fronts (touched i) t (frames_taken moves)) t moves) (told i)) ∙ sym phased.flight

pub returns-in-Ok-clause-run : goal.returns-in-Ok-clause-run
returns-in-Ok-clause-run g c =
    let r = c.of-run.result.state in
    let t = c.args.planned.requests.now.target in
    let ws = c.args.planned.requests.now.wanted.items in
    let moves : List PageMove = c.moves-moves.result.now in
    let accesses : List Access = accesses_shown {A = g.row.A.Denot} c.args.planned.accesses.now in
    let at = c.of-run.ensures.state in
    let plan : IsPlanOf r t ws c.args.planned.plan = subst (λ (s : State). IsPlanOf s t ws c.args.planned.plan) (sym at) c.requires.plan in
    let during = all_in_flight (with_moves r t moves) (pages_of moves) accesses in
    let before = (goal.at.returns-in-Ok-clause-run g c).In-Ok in
    let in_flight_now = as_in_flight g c (ready g before) (phases g before) in
    let landed = c.copy_beside-run.result.0 in
    let now = state_in_flight landed c.copy_beside-run.result.1.items in
    let state =
    c.finish-machine.ensures.state
    ∙ ap (λ n. with_counts (with_all_free now (frames_left landed.moves)) n (failures c.statuses.result.now)) (sym (length-map landed.moves (λ (t : PageMove). t.from)))
    ∙ run_state r t ws c.args.planned.plan moves accesses during plan c.moves-moves.ensures refl now (frames_left landed.moves) c.statuses.result.now
    (c.copy_beside-run.ensures.state ∙ ap (λ (x : AccessResults). x.state) in_flight_now)
    (ap (λ (x : Flight). frames_left x.moves) c.copy_beside-run.ensures.run ∙ ap frames_left c.begin-run.ensures.moves) c.statuses.ensures
    ∙ ap (λ (s : State). (run s t ws accesses).state) at in
    let answers =
    run_answers r t ws c.args.planned.plan moves accesses during plan c.moves-moves.ensures refl (map (answer_shown {A = g.row.A.Denot}) c.copy_beside-run.result.2.items)
    (c.copy_beside-run.ensures.answers ∙ ap (λ (x : AccessResults). x.answers) in_flight_now)
    ∙ ap (λ (s : State). (run s t ws accesses).answers) at in
    let statuses = c.into_statuses.ensures ∙ sym c.requires.plan.agrees.statuses in
    λ i. record { state = state i; statuses = statuses i; answers = answers i }

pub returns-in-Ok-clause-events : goal.returns-in-Ok-clause-events
returns-in-Ok-clause-events g c =
    let moves : List PageMove = c.moves-moves.result.now in
    let asked = asked_by c.args.planned.requests.now c.args.planned.accesses.now in
    let at = c.of-run.ensures.state in
    let before = (goal.at.returns-in-Ok-clause-events g c).In-Ok in
    let x = c.copy_beside-run.result.0 in
    let jobs = c.copy_beside-run.result.1.items in
    let run = c.copy_beside-run.ensures.run in
    let pairs : map pair_of jobs ≡ _ = ap (map pair_of) c.copy_beside-run.ensures.jobs ∙ still_pairs c.begin-run.result.1.items ∙ c.begin-run.ensures.pairs in
    let shows = c.copy_beside-run.ensures.state ∙ ap (λ (d : AccessResults). d.state) (as_in_flight g c (ready g before) (phases g before)) ∙ ap (λ (s : State). (all_in_flight (with_moves s asked.target moves) (pages_of moves) asked.accesses).state) at in
    let ended = subst (λ zs. EndsAs x jobs zs c.finish-machine.result.0) (c.statuses.ensures ∙ sym c.into_statuses.ensures) c.finish-machine.ensures.event in (
      x,
      c.copy_beside-run.result.1,
      c.copy_beside-run.ensures.done,
      goes_by_events c.args.machine asked c.args.planned.plan moves x jobs _ (subst IsSound at c.in-Ok.ensures.sound) c.requires.alike c.requires.plan c.moves-moves.ensures
          (ap (λ (y : Flight). y.moves) run ∙ c.begin-run.ensures.moves) (subst HoldsMovingPages (sym run) c.begin-run.ensures.entries) shows pairs ended (returns-in-Ok-clause-run g c),
    )

-- memory that is asked for moves, or for accesses, is asked for none where nothing is requested
asked_for : (s : State) (t : ℕ) (ws : List Wanted) (p : RunPlan) (moves : List PageMove) (n : ℕ) → IsPlanOf s t ws p → moves ≡ p.taken → 0 < length moves + n → 0 < length ws + n
asked_for s t [] p moves n plan same h = subst (λ (ms : List PageMove). 0 < length ms + n) (same ∙ ap (λ (q : RunPlan). q.taken) plan.planned) h
asked_for s t (w ∷ ws) p moves n plan same h = omega arith

pub returns-in-Err-clause-allocates : goal.returns-in-Err-clause-allocates
returns-in-Err-clause-allocates g c =
    asked_for _ c.args.planned.requests.now.target c.args.planned.requests.now.wanted.items c.args.planned.plan c.moves-moves.result.now (length c.args.planned.accesses.now) c.requires.plan c.moves-moves.ensures c.in-Err.ensures.allocates

pub into_machine-requires-clause-none : goal.into_machine-requires-clause-none
into_machine-requires-clause-none g c κs within = ap (λ (x : RunState). x.left) c.in-Err.ensures.err ∙ c.of-run.ensures.left

pub returns-in-Err-clause-err : goal.returns-in-Err-clause-err
returns-in-Err-clause-err g c = c.into_machine.ensures ∙ ap (λ (x : RunState). x.state) c.in-Err.ensures.err ∙ c.of-run.ensures.state
