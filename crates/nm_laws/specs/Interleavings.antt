-- What holds for every interleaving of a run's events.
use Rattle.std.specs.Prelude.{◌≡◌, ◌↔◌, ℕ, ◌<◌, List, [], ◌∷◌, map, length, Some, IsTrue}
use Rattle.std.specs.Option.{option_map}
use Rattle.nm_types.specs.declared.page.Page.{Page}
use Rattle.nm_types.specs.Layout.{frame_count}
use Rattle.nm_types.specs.State.{State}
use Rattle.nm_types.specs.declared.entry.Entry.{Entry}
use Rattle.nm_model.specs.definitions.Frames.{IsHome}
use Rattle.nm_types.specs.declared.request.Wanted.{Wanted}
use Rattle.nm_model.specs.definitions.PageTables.{entry_at, sight_of, entry_of}
use Rattle.nm_model.specs.definitions.Touch.{Access, Held, site_of_access, is_held, access_during}
use Rattle.nm_model.specs.definitions.Run.{RunResult, HasOneAll, each_request, run}
use Rattle.nm_model.specs.definitions.Seen.{sight_at}
use Rattle.nm_model.specs.definitions.Sound.{IsSound}
use Rattle.nm_laws.specs.InFlight.{entry_in_flight}
use Rattle.nm_model.specs.definitions.RunMachine.{RunMachine, Ready, Moving, Ended, state_of}
use Rattle.nm_model.specs.definitions.Events.{Event, Begin, after, accesses_in, hands}

-- no page is on its way: every buffer is home, and every entry names the frame of the page shown there
pub record IsSettled (m : RunMachine) : Type 0 where
  pub idle : m.jobs ≡ []
  pub buffers : length m.buf ≡ frame_count m.layout
  pub home : (f : ℕ) → f < frame_count m.layout → IsHome m.buf f
  pub entries : (pid v : ℕ) (e : Entry) → entry_at m.tasks pid v ≡ Some e → e ≡ entry_of m.place (sight_of m.areas pid v e)

-- settled, and no run has begun
pub record IsAtRest (m : RunMachine) : Type 0 where
  pub ready : m.phase ≡ Ready
  pub unanswered : m.answers ≡ []
  pub settled : IsSettled m

-- each sound state is the state of a machine at rest
abbrev pub EverySoundStateIsRead : Type 0
EverySoundStateIsRead = (s : State) → IsSound s → (m : RunMachine) × IsAtRest m × (state_of m ≡ s)

-- a run of requests with one `all`, and events from its beginning on
pub record Unfolds (m : RunMachine) (target : ℕ) (wanted : List Wanted) (events : List Event) (n : RunMachine) : Type 0 where
  pub rest : IsAtRest m
  pub sound : IsSound (state_of m)
  pub alike : HasOneAll wanted
  pub leads : after m (Begin target wanted ∷ events) ≡ Some n

-- whatever accesses are made during it, a run can end
abbrev pub EveryRunCanEnd : Type 0
EveryRunCanEnd =
    (m : RunMachine) (target : ℕ) (wanted : List Wanted) (accesses : List Access) →
    IsAtRest m → IsSound (state_of m) → HasOneAll wanted →
    (events : List Event) × (n : RunMachine) × Unfolds m target wanted events n × (n.phase ≡ Ended) × (accesses_in events ≡ accesses)

-- the run that a machine is in
pub record IsRun (n : RunMachine) (r : RunResult) : Type 0 where
  pub state : state_of n ≡ r.state
  pub statuses : n.statuses ≡ r.statuses
  pub answers : n.answers ∷ [] ≡ r.answers
  pub settled : IsSettled n

-- whatever order its events take, a run that has ended is one request after another, then one access after another
abbrev pub EveryOrderIsTheRun : Type 0
EveryOrderIsTheRun =
    (m : RunMachine) (target : ℕ) (wanted : List Wanted) (events : List Event) (n : RunMachine) →
    Unfolds m target wanted events n → n.phase ≡ Ended → IsRun n (run (state_of m) target wanted (accesses_in events))

-- after each event, each frame's buffer is in exactly one place
abbrev pub EveryBufferIsInOneHand : Type 0
EveryBufferIsInOneHand =
    (m : RunMachine) (target : ℕ) (wanted : List Wanted) (events : List Event) (n : RunMachine) →
    Unfolds m target wanted events n → (f : ℕ) → f < frame_count m.layout → length (hands n f) ≡ 1

-- after each event of a run that has begun and not ended, the entries of the pages that move are held, whoever maps them, and
-- no other entry is
abbrev pub EveryEntryOfAMovingPageIsHeld : Type 0
EveryEntryOfAMovingPageIsHeld =
    (m : RunMachine) (target : ℕ) (wanted : List Wanted) (events : List Event) (n : RunMachine) →
    Unfolds m target wanted events n → n.phase ≡ Moving → (pid v : ℕ) →
    let moved = map (λ t. t.page) (each_request (state_of m) target wanted).taken in
    entry_at n.tasks pid v ≡ option_map (entry_in_flight (state_of n).place moved) (sight_at (state_of n) pid v)

-- an access of a run is held exactly if it is not refused first and the page there moves
abbrev pub HeldIsExact : Type 0
HeldIsExact =
    (s : State) (moved : List Page) (a : Access) →
    ((access_during s moved a).answer ≡ Held) ↔ IsTrue (is_held moved (site_of_access s a))
