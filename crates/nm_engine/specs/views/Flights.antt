-- A run whose pages are on their way, with the whole machine.
use Rattle.std.specs.Prelude.{◌≡◌, ℕ, ◌<◌, ◌≤◌, ◌++◌, ℤ, true, List, [], ◌∷◌, Some, map, vec_len, vec_capacity}
use Rattle.std.specs.List.{AllByRecursion, list_all}
use Rattle.std.specs.declared.vec.Vec.{Vec}
use Rattle.nm_types.specs.Map.{Map}
use Rattle.nm_types.specs.declared.entry.Entry.TheVariants.{Held}
use Rattle.nm_types.specs.declared.request.Wanted.{Wanted}
use Rattle.nm_types.specs.declared.page_move.PageMove.{PageMove}
use Rattle.nm_types.specs.Layout.{node_count}
use Rattle.nm_types.specs.State.{State}
use Rattle.nm_frames.specs.declared.job.CopyJob.{CopyJob}
use Rattle.nm_frames.specs.Job.{job_after_copy}
use Rattle.nm_pool.specs.views.Populated.{IsPopulated}
use Rattle.nm_model.specs.definitions.Accesses.{after_access}
use Rattle.nm_model.specs.definitions.BeforeCopy.{PendingAccess, after_copy, all_after_copy, answer_after_copy, with_fronts, frames_taken}
use Rattle.nm_model.specs.definitions.Decide.{RunPlan}
use Rattle.nm_model.specs.definitions.Events.{Event, accesses_in, after, begin_run, end_run, is_given}
use Rattle.nm_model.specs.definitions.Frames.{Store}
use Rattle.nm_model.specs.definitions.PageTables.{Task, entry_at}
use Rattle.nm_model.specs.definitions.Run.{HasOneAll, frames_left}
use Rattle.nm_model.specs.definitions.RunMachine.{RunMachine, Moving, state_of}
use Rattle.nm_model.specs.definitions.Sound.{IsSound}
use Rattle.nm_model.specs.definitions.Touch.{Access, AccessAnswer, all_in_flight, access_during}
use Rattle.nm_laws.specs.Interleavings.{IsAtRest}
use Rattle.nm_laws.specs.InFlight.{IsInFlight, frames_of_job}
use Rattle.nm_laws.specs.Moves.{CanMove, IsPlanOf}
use Rattle.nm_pool.specs.declared.answers.AccessAnswer.{AccessAnswer as Given}
use Rattle.nm_pool.specs.declared.pending_access.PendingAccess.{PendingAccess as Left}
use Rattle.nm_pool.specs.definitions.AfterCopy.{CanDo, all_stored_after_copy}
use Rattle.nm_pool.specs.views.Accesses.{HasRoom, answer_shown, pending_shown}
use Rattle.nm_pool.specs.views.Copies.{with_jobs_back, CanRefill}
use Rattle.nm_pool.specs.views.Frames.{FramesView, HasAllFrames}
use Rattle.nm_spaces.specs.views.AddressSpaces.{AddressSpacesView}
use Rattle.nm_spaces.specs.views.Held.{HeldView, HoldsPages, is_taken}
use Rattle.nm_engine.specs.views.RunState.{RunState, IsSoundMachine}
use Rattle.nm_engine.specs.views.Shown.{shown_by}

-- the frames that these moves take from a node belong to the run, and it could make the moves if they were still the node's
pub record IsReadyFor (x : RunState) (target : ℕ) (moves : List PageMove) : Type 0 where
  pub node : target < node_count x.state.layout
  pub taken : x.left ≡ frames_taken moves
  pub sound : IsSound (with_fronts x.state target (frames_taken moves))
  pub can : CanMove (with_fronts x.state target (frames_taken moves)) target moves

-- a run whose pages are on their way
pub record Flight : Type 0 where
  -- each process with its page table, by pid, in which the entries of pages on their way are held
  pub tables : Map ℕ Task
  -- what the address spaces are once the pages have arrived
  pub spaces : AddressSpacesView
  -- the frames: the bytes of some are out
  pub frames : FramesView
  pub online : List ℕ
  pub moved : ℕ
  pub failed : ℕ
  -- the run's moves
  pub moves : List PageMove

-- these address spaces and frames while these pages are on their way
abbrev pub flight_of : HeldView → FramesView → List ℕ → ℕ → ℕ → List PageMove → Flight
flight_of held frames online moved failed moves =
    record { tables = held.tables; spaces = held.spaces; frames = frames; online = online; moved = moved; failed = failed; moves = moves }

-- only the bytes that are home may change
abbrev pub with_store : Flight → Store → Flight
with_store x store = let k = x.frames in record x { frames = record k { frames = store } }

-- the entries of the pages on their way are held, whoever maps them, and no other entry is
abbrev pub HoldsMovingPages : Flight → Type 0
HoldsMovingPages x = HoldsPages (record { tables = x.tables; spaces = x.spaces }) (map (λ t. t.page) x.moves)

-- entries are held so, and each held entry is on its way to a frame that one of the moves takes; the frames that the pages
-- leave belong to the run
pub record IsSoundFlight (x : Flight) : Type 0 where
  pub entries : HoldsMovingPages x
  pub among : (f pid v : ℕ) → entry_at x.tables pid v ≡ Some (Held f) → is_taken x.moves f ≡ true
  pub below : AllByRecursion (λ t. t.to < x.spaces.frames) x.moves
  pub left : x.frames.vacated ≡ frames_left x.moves

module _ {A : Type 0} where
  -- the frame that a job copies, and the one that it copies to
  abbrev pub pair_of : CopyJob A → ℕ × ℕ
  pair_of job = (job.source.0, job.target.0)

  -- the frames once the bytes in these jobs are copied and home again
  abbrev pub frames_then : Flight → List (CopyJob A) → FramesView
  frames_then x jobs = let k = x.frames in record k { frames = with_jobs_back k.frames (map job_after_copy jobs) }

  -- the state that accesses during the run read: each page is in the frame that it goes to, with the bytes that it has in
  -- the one that it leaves
  abbrev pub state_in_flight : Flight → List (CopyJob A) → State
  state_in_flight x jobs = shown_by x.spaces (frames_then x jobs) x.online x.moved x.failed

  -- the bytes that are out are in these jobs, and the machine is whole once they are home
  pub record AreOutIn (x : Flight) (jobs : List (CopyJob A)) : Type 0 where
    pub can : CanRefill x.frames.frames (map job_after_copy jobs)
    pub whole : HasAllFrames (frames_then x jobs)
    pub kept : IsSoundMachine (state_in_flight x jobs) x.frames.vacated x.spaces.frames
    pub populated : AllByRecursion (IsPopulated (with_jobs_back x.frames.frames (map job_after_copy jobs))) x.frames.vacated

  -- a run machine in the flight of these moves: it is read as the same state, and each process has the same entry
  -- at each page number
  pub record IsFlightOf (m : RunMachine) (x : Flight) (jobs : List (CopyJob A)) : Type 0 where
    pub in_flight : IsInFlight m (map (λ t. t.page) x.moves)
    pub state : state_of m ≡ state_in_flight x jobs
    pub entries : (pid v : ℕ) → entry_at m.tasks pid v ≡ entry_at x.tables pid v
    pub ends : map frames_of_job m.jobs ≡ map (λ t. (t.from, t.to)) x.moves

  -- what is due for accesses can be done during the run, and an empty list has room for their answers
  pub record CanAnswer (x : Flight) (all_due : Vec (Left A) A) (answers : Vec (Given A) A) : Type 0 where
    pub can : AllByRecursion (CanDo x.spaces.place x.frames.frames) (map pending_shown all_due.items)
    pub room : AllByRecursion HasRoom all_due.items
    pub unanswered : answers.items ≡ []
    pub space : vec_len all_due ≤ vec_capacity answers

  -- it is done, in order, on the bytes that are home, and these are the answers
  pub record AnswersEach (x : Flight) (all_due : List (Left A)) (y : Flight) (told : List (Given A)) : Type 0 where
    pub run : y ≡ with_store x (all_stored_after_copy x.spaces.place x.frames.frames (map pending_shown all_due)).store
    pub answers : map answer_shown told ≡ (all_stored_after_copy x.spaces.place x.frames.frames (map pending_shown all_due)).answers

  -- a run machine that begins the run of a plan with these moves is then at this moment
  abbrev pub BeginsSo : RunState → List PageMove → Flight → List (CopyJob A) → Type 0
  BeginsSo prepared moves x jobs =
      (m : RunMachine) (target : ℕ) (wanted : List Wanted) (p : RunPlan) →
      IsAtRest m → HasOneAll wanted → IsReadyFor prepared target moves →
      state_of m ≡ with_fronts prepared.state target (frames_taken moves) →
      IsPlanOf (state_of m) target wanted p → p.taken ≡ moves → IsFlightOf (begin_run m target wanted) x jobs

  -- a run machine at the first moment, at the second once jobs are drawn and given back, and accesses made for which this is
  -- left to do, with their answers
  abbrev pub FliesSo : Flight → List (CopyJob A) → List PendingAccess → Flight → List (CopyJob A) → List AccessAnswer → Type 0
  FliesSo x jobs all_due y done answers =
      (m n : RunMachine) (events : List Event) → IsFlightOf m x jobs → after m events ≡ Some n → n.phase ≡ Moving →
      all_in_flight (state_of m) (map (λ t. t.page) x.moves) (accesses_in events) ≡ all_after_copy (state_of m) all_due →
      IsFlightOf n y done × (n.answers ≡ m.answers ++ answers)

  -- a run machine at this moment, whose jobs are given back, is in this state once it has ended the run
  abbrev pub EndsAs : Flight → List (CopyJob A) → List ℤ → State → Type 0
  EndsAs x jobs statuses s =
      (m : RunMachine) → IsFlightOf m x jobs → list_all (λ job. is_given job.stage) m.jobs ≡ true → m.statuses ≡ statuses →
      state_of (end_run m) ≡ s

-- a run machine at the first moment, at the second once an access is made for which this is left to do, with its answer
abbrev pub AnswersSo : (A : Type 0) → Flight → PendingAccess → Flight → AccessAnswer → Type 0
AnswersSo A x due y answer =
    (m : RunMachine) (a : Access) (jobs : List (CopyJob A)) → AreOutIn x jobs → IsFlightOf m x jobs →
    access_during (state_of m) (map (λ t. t.page) x.moves) a
    ≡ record { state = after_copy (state_of m) due; answer = answer_after_copy (state_of m) due } →
    IsFlightOf (after_access m a) y jobs × ((after_access m a).answers ≡ m.answers ++ answer ∷ [])
