-- What a run of the engine says of the events of the run machine.
use Rattle.std.specs.Prelude.{◌≡◌, ℕ, List, map, true}
use Rattle.nm_types.specs.State.{State}
use Rattle.nm_types.specs.declared.request.Wanted.{Wanted}
use Rattle.nm_frames.specs.declared.job.CopyJob.{CopyJob}
use Rattle.nm_model.specs.definitions.Events.{Event, End, accesses_in, effect, is_allowed}
use Rattle.nm_model.specs.definitions.Run.{RunResult, run}
use Rattle.nm_model.specs.definitions.RunMachine.{RunMachine, Ended, state_of}
use Rattle.nm_model.specs.definitions.Touch.{Access}
use Rattle.nm_laws.specs.Interleavings.{Unfolds, IsRun}
use Rattle.nm_laws.specs.InFlight.{frames_of_job}
use Rattle.nm_engine.specs.views.Flights.{Flight, IsFlightOf, pair_of}

-- what a run is asked for: the node that pages go to, the requests, and the accesses during the run
pub record RunRequest : Type 0 where
  pub target : ℕ
  pub wanted : List Wanted
  pub accesses : List Access

-- the run that the definitions make of it
abbrev pub result_of_run : State → RunRequest → RunResult
result_of_run s asked = run s asked.target asked.wanted asked.accesses

-- a run machine that begins such a run at rest in this state, with these accesses during it, ends it so, whatever order
-- its events take
abbrev pub EndsSo : State → RunRequest → RunResult → Type 0
EndsSo s asked ran =
    (m : RunMachine) (events : List Event) (n : RunMachine) →
    state_of m ≡ s → Unfolds m asked.target asked.wanted events n → accesses_in events ≡ asked.accesses → n.phase ≡ Ended → IsRun n ran

module _ {A : Type 0} where
  -- events that the run machine allows, from the beginning of such a run at rest in this state, with these accesses; then
  -- its end is allowed, and the run ends so. Before its end the machine has the entries and the bytes of this run of the
  -- engine, and jobs between the same frames as these
  pub record GoesByEvents (s : State) (asked : RunRequest) (x : Flight) (jobs : List (CopyJob A)) (ran : RunResult) : Type 0 where
    pub first : RunMachine
    pub events : List Event
    pub now : RunMachine
    pub start : state_of first ≡ s
    pub unfolds : Unfolds first asked.target asked.wanted events now
    pub accesses : accesses_in events ≡ asked.accesses
    pub moment : IsFlightOf now x jobs
    pub pairs : map frames_of_job now.jobs ≡ map pair_of jobs
    pub over : is_allowed now End ≡ true
    pub ends : IsRun (effect now End) ran
