-- The events of a run: when each is allowed, and its effect.
use Rattle.std.specs.Prelude.{ℕ, zero, suc, ◌==◌, Bool, true, false, ◌&&◌, List, [], ◌∷◌, ◌++◌, map, length, drop, slice_index_or}
use Rattle.std.specs.Prelude.{slice_set, Option, Some, None, if◌then◌else◌}
use Rattle.std.specs.Option.{unwrap_or, option_map}
use Rattle.std.specs.List.{fold, flat_map, list_any, list_all, slice_get}
use Rattle.nm_types.specs.Map.{Map, with_values}
use Rattle.nm_types.specs.Layout.{Layout, node_of}
use Rattle.nm_types.specs.State.{free_list}
use Rattle.nm_types.specs.declared.entry.Entry.{Entry}
use Rattle.nm_types.specs.declared.entry.Entry.TheVariants.{Zero, Frame, Held}
use Rattle.nm_model.specs.definitions.Frames.{Store, bytes_of}
use Rattle.nm_types.specs.declared.request.Wanted.{Wanted}
use Rattle.nm_model.specs.definitions.Status.{status_or_move}
use Rattle.nm_types.specs.declared.page_move.PageMove.{PageMove}
use Rattle.nm_model.specs.definitions.Decide.{Decisions, decide}
use Rattle.nm_model.specs.definitions.PageTables.{Task}
use Rattle.nm_model.specs.definitions.Touch.{Access}
use Rattle.nm_model.specs.definitions.Run.{failures, total_after}
use Rattle.nm_model.specs.definitions.RunMachine.{Job, Stage, Laid, InHand, Given, Phase, Ready, Moving, Ended, RunMachine, job_from, goes_to}
use Rattle.nm_model.specs.definitions.RunMachine.{state_of}
use Rattle.nm_model.specs.definitions.Accesses.{after_access}

pub data Event : Type 0 where
  -- the run begins
  Begin : (target : ℕ) (wanted : List Wanted) → Event
  -- a worker draws the next job
  Draw : (worker : ℕ) → Event
  -- a worker gives a job back, copied
  Give : (worker ticket : ℕ) → Event
  -- a process makes an access: its touch, and then its read or write
  Touch : (access : Access) → Event
  -- the run ends
  End : Event

-- the decisions on the requests, from the state before the run
abbrev pub plan : RunMachine → ℕ → List Wanted → Decisions
plan m target wanted =
    let s = state_of m in decide (map (status_or_move s target) wanted) [] (free_list s target) target

-- the job of a move
abbrev pub laid_for : Store → PageMove → Job
laid_for buf t = record { source = (t.from, bytes_of buf t.from); target = (t.to, bytes_of buf t.to); stage = Laid }

-- both buffers of a job are taken out
abbrev pub without_buffers_of : Store → Job → Store
without_buffers_of buf job = slice_set (slice_set buf job.source.0 None) job.target.0 None

-- both buffers of a job are put back
abbrev pub with_both : Store → Job → Store
with_both buf job = slice_set (slice_set buf job.source.0 (Some job.source.1)) job.target.0 (Some job.target.1)

-- an entry that names a job's source becomes held, on its way to the job's target
abbrev pub held_by : List Job → Entry → Entry
held_by jobs Zero = Zero
held_by jobs (Frame f) = unwrap_or (option_map (λ job. Held job.target.0) (job_from jobs f)) (Frame f)
held_by jobs (Held f) = Held f

-- a held entry names the frame that it was on its way to
abbrev pub arrival_of : Entry → Entry
arrival_of Zero = Zero
arrival_of (Frame f) = Frame f
arrival_of (Held f) = Frame f

-- each entry of a process, changed
abbrev pub with_changed : (Entry → Entry) → Task → Task
with_changed change t = record t { table = with_values (λ v e. change e) t.table }

-- each entry of each process, changed
abbrev pub with_entries : (Entry → Entry) → Map ℕ Task → Map ℕ Task
with_entries change tasks = with_values (λ pid. with_changed change) tasks

-- the run begins: frames are taken for the pages that move, their entries are held, and the jobs are laid
abbrev pub begin_run : RunMachine → ℕ → List Wanted → RunMachine
begin_run m target wanted =
    let d = plan m target wanted in
    let jobs = map (laid_for m.buf) d.taken in
    record m {
      phase = Moving;
      tasks = with_entries (held_by jobs) m.tasks;
      buf = fold without_buffers_of m.buf jobs;
      free = slice_set m.free target (drop (length d.taken) (slice_index_or m.free target []));
      jobs = jobs;
      statuses = d.statuses;
    }

-- a frame is appended to its own node's free list
abbrev pub free_frame : Layout → List (List ℕ) → ℕ → List (List ℕ)
free_frame g free f = slice_set free (node_of g f) (slice_index_or free (node_of g f) [] ++ f ∷ [])

-- the run ends: the buffers are put back, the pages are in their new frames, and the frames that they left are free
abbrev pub end_run : RunMachine → RunMachine
end_run m =
    record m {
      phase = Ended;
      tasks = with_entries arrival_of m.tasks;
      place = with_values (λ page f. goes_to m.jobs f) m.place;
      buf = fold with_both m.buf m.jobs;
      free = fold (free_frame m.layout) m.free (map (λ job. job.source.0) m.jobs);
      moved = total_after m.moved (length m.jobs);
      failed = total_after m.failed (failures m.statuses);
      jobs = [];
    }

abbrev pub is_laid : Stage → Bool
is_laid Laid = true
is_laid (InHand w) = false
is_laid Given = false

abbrev pub is_given : Stage → Bool
is_given Laid = false
is_given (InHand w) = false
is_given Given = true

-- whether this worker has the job in hand
abbrev pub is_with : ℕ → Stage → Bool
is_with w Laid = false
is_with w (InHand x) = x == w
is_with w Given = false

-- the first job that lies on the board goes to the worker
abbrev pub draw_job : ℕ → List Job → List Job
draw_job w [] = []
draw_job w (job ∷ jobs) = if is_laid job.stage then record job { stage = InHand w } ∷ jobs else job ∷ draw_job w jobs

-- the target has the source's bytes, and the job is given back
abbrev pub copy_job : Job → Job
copy_job job = record job { target = (job.target.0, job.source.1); stage = Given }

-- the job of this ticket is given back, copied
abbrev pub give_job : ℕ → List Job → List Job
give_job t [] = []
give_job zero (job ∷ jobs) = copy_job job ∷ jobs
give_job (suc t) (job ∷ jobs) = job ∷ give_job t jobs

abbrev pub is_ready : Phase → Bool
is_ready Ready = true
is_ready Moving = false
is_ready Ended = false

abbrev pub is_moving : Phase → Bool
is_moving Ready = false
is_moving Moving = true
is_moving Ended = false

-- whether an event is allowed
abbrev pub is_allowed : RunMachine → Event → Bool
is_allowed m (Begin target wanted) = is_ready m.phase
is_allowed m (Draw w) = list_any (λ job. is_laid job.stage) m.jobs
is_allowed m (Give w t) = unwrap_or (option_map (λ job. is_with w job.stage) (slice_get m.jobs t)) false
is_allowed m (Touch a) = is_moving m.phase
is_allowed m End = is_moving m.phase && list_all (λ job. is_given job.stage) m.jobs

-- an event's effect
abbrev pub effect : RunMachine → Event → RunMachine
effect m (Begin target wanted) = begin_run m target wanted
effect m (Draw w) = record m { jobs = draw_job w m.jobs }
effect m (Give w t) = record m { jobs = give_job t m.jobs }
effect m (Touch a) = after_access m a
effect m End = end_run m

-- the machine after these events, if each is allowed at its turn
abbrev pub after : RunMachine → List Event → Option RunMachine
after m [] = Some m
after m (e ∷ events) = if is_allowed m e then after (effect m e) events else None

-- the access of an event, if it is one
abbrev pub access_in : Event → List Access
access_in (Begin target wanted) = []
access_in (Draw w) = []
access_in (Give w t) = []
access_in (Touch a) = a ∷ []
access_in End = []

abbrev pub accesses_in : List Event → List Access
accesses_in events = flat_map access_in events

-- where a buffer may be: at home, or in a job at some stage
pub data Hold : Type 0 where
  Home : Hold
  InJob : (stage : Stage) → Hold

-- a frame's buffer, if it is at home
abbrev pub home_hold : Option (List ℕ) → List Hold
home_hold None = []
home_hold (Some bytes) = Home ∷ []

-- each of a job's buffers that is the frame's
abbrev pub job_holds : ℕ → Job → List Hold
job_holds f job =
    (if job.source.0 == f then InJob job.stage ∷ [] else []) ++ (if job.target.0 == f then InJob job.stage ∷ [] else [])

-- all that hold the buffer of a frame: the store, and jobs at some stage
abbrev pub hands : RunMachine → ℕ → List Hold
hands m f = home_hold (slice_index_or m.buf f None) ++ flat_map (job_holds f) m.jobs
