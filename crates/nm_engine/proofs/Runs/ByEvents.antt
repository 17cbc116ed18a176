-- The engine's run goes by events of the run machine.
use Rattle.std.proofs.Common.{◌≡◌, ℕ, List, true, cond, map, sym, subst, ap, ◌∙◌}
use Rattle.std.specs.Prelude.{Bool, false, Option, Some, None, ◌&&◌}
use Rattle.nm_types.specs.State.{State}
use Rattle.nm_types.specs.declared.page_move.PageMove.{PageMove}
use Rattle.nm_frames.specs.declared.job.CopyJob.{CopyJob}
use Rattle.nm_model.specs.definitions.Decide.{RunPlan}
use Rattle.nm_model.specs.definitions.Events.{after, begin_run, is_moving, is_ready}
use Rattle.nm_model.specs.definitions.Run.{HasOneAll, RunResult, each_request, run}
use Rattle.nm_model.specs.definitions.RunMachine.{RunMachine, state_of}
use Rattle.nm_model.specs.definitions.Sound.{IsSound}
use Rattle.nm_model.specs.definitions.Touch.{all_in_flight}
use Rattle.nm_laws.specs.Interleavings.{IsRun}
use Rattle.nm_laws.specs.Laws.{with_moves}
use Rattle.nm_laws.specs.InFlight.{IsInFlight}
use Rattle.nm_laws.specs.Moves.{IsPlanOf}
use Rattle.nm_laws.proofs.InFlight.Beginning.{begun_is}
use Rattle.nm_laws.proofs.InFlight.Orders.{allowed, before_end, every_order_is_the_run, flies}
use Rattle.nm_laws.proofs.InFlight.Progress.{every_run_can_end}
use Rattle.nm_laws.proofs.InFlight.Reading.{every_sound_state_is_read}
use Rattle.nm_engine.specs.definitions.Orders.{GoesByEvents, RunRequest, result_of_run}
use Rattle.nm_engine.specs.views.Flights.{EndsAs, Flight, HoldsMovingPages, pair_of, state_in_flight}
use Rattle.nm_engine.proofs.InFlight.Moments.{at_moment, pages_of}

module _ {A : Type 0} where
  -- a machine at rest in the state before begins the run of the plan, comes to where the engine's run is while its jobs are
  -- done, and ends as that does
  pub goes_by_events : (s : State) (asked : RunRequest) (p : RunPlan) (moves : List PageMove) (x : Flight) (jobs : List (CopyJob A)) (ran : RunResult)
      → IsSound s → HasOneAll asked.wanted → IsPlanOf s asked.target asked.wanted p → moves ≡ p.taken → x.moves ≡ moves → HoldsMovingPages x
      → state_in_flight x jobs ≡ (all_in_flight (with_moves s asked.target moves) (pages_of moves) asked.accesses).state
      → map pair_of jobs ≡ map (λ t. (t.from, t.to)) moves → EndsAs x jobs ran.statuses ran.state → ran ≡ result_of_run s asked → GoesByEvents s asked x jobs ran
  goes_by_events s asked p moves x jobs ran sound alike plan taken same held shows pairs finish made =
      let t = asked.target in
      let ws = asked.wanted in
      let read = every_sound_state_is_read s sound in
      let m = read.0 in
      let here : IsSound (state_of m) = subst IsSound (sym read.2) sound in
      let end = every_run_can_end m t ws asked.accesses read.1 here alike in
      let first = begun_is m t ws read.1 here alike in
      let k = begin_run m t ws in
      let leads = (allowed (is_ready m.phase) (after k end.0) end.1 end.2.leads).1 in
      let moved = pages_of (each_request (state_of m) t ws).taken in
      let last = before_end end.0 k end.1 moved first.in_flight leads end.3 in
      let landed = flies last.till k last.now moved first.in_flight last.leads last.moving in
      let taken_is : (each_request (state_of m) t ws).taken ≡ moves = ap (λ (z : State). (each_request z t ws).taken) read.2 ∙ plan.agrees.taken ∙ sym taken in
      let begins : state_of k ≡ with_moves s t moves = first.state ∙ ap (λ (z : State). (each_request z t ws).state) read.2 ∙ plan.agrees.state ∙ ap (with_moves s t) (sym taken) in
      let accesses = last.accesses ∙ end.4 in
      let in_flight : IsInFlight last.now (pages_of moves) = subst (λ (ts : List PageMove). IsInFlight last.now (pages_of ts)) taken_is landed.in_flight in
      let state : state_of last.now ≡ state_in_flight x jobs = landed.state ∙ (λ i. (all_in_flight (begins i) (pages_of (taken_is i)) (accesses i)).state) ∙ sym shows in
      let pair : List PageMove → List (ℕ × ℕ) = map (λ t. (t.from, t.to)) in
      let ends = landed.ends ∙ first.ends ∙ ap pair taken_is in
      let moment = at_moment x jobs last.now held (subst (λ (ts : List PageMove). IsInFlight last.now (pages_of ts)) (sym same) in_flight) state (ends ∙ ap pair (sym same)) in
      let law : IsRun end.1 ran = subst (IsRun end.1) ((λ i. run (read.2 i) t ws (end.4 i)) ∙ sym made) (every_order_is_the_run m t ws end.0 end.1 end.2 end.3) in
      let over = subst (λ (n : RunMachine). IsRun n ran) (sym last.over) law in
      record {
        first = m;
        events = last.till;
        now = last.now;
        start = read.2;
        unfolds = record {
          rest = end.2.rest;
          sound = end.2.sound;
          alike = end.2.alike;
          leads = ap (λ b. cond b (after k last.till) None) (ap is_ready read.1.ready) ∙ last.leads;
        };
        accesses = accesses;
        moment = moment;
        pairs = ends ∙ sym pairs;
        over = λ i. is_moving (last.moving i) && last.given i;
        ends = record { state = finish last.now moment last.given over.statuses; statuses = over.statuses; answers = over.answers; settled = over.settled };
      }
