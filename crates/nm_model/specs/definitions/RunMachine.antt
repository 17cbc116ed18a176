-- The machine during a run: page tables, buffers and jobs.
use Rattle.std.specs.Prelude.{ℕ, ℤ, ◌==◌, List, [], ◌∷◌, Option, Some, None, if◌then◌else◌}
use Rattle.std.specs.Option.{unwrap_or, option_map}
use Rattle.nm_types.specs.declared.page.Page.{Page}
use Rattle.nm_types.specs.declared.area.Area.{Area}
use Rattle.nm_types.specs.declared.area.Segment.{Segment}
use Rattle.nm_types.specs.Map.{Map, with_values}
use Rattle.nm_types.specs.Layout.{Layout}
use Rattle.nm_types.specs.State.{State}
use Rattle.nm_model.specs.definitions.Frames.{Store, bytes_of}
use Rattle.nm_model.specs.definitions.PageTables.{Task, process_of}
use Rattle.nm_model.specs.definitions.Touch.{AccessAnswer}

-- a buffer: the number of its frame, and the bytes in it
abbrev pub Buffer : Type 0
Buffer = ℕ × List ℕ

-- how far a copy job is: it lies on the board, a worker has it in hand, or it is given back
pub data Stage : Type 0 where
  Laid : Stage
  InHand : (worker : ℕ) → Stage
  Given : Stage

-- a copy from one buffer into another
pub record Job : Type 0 where
  pub source : Buffer
  pub target : Buffer
  pub stage : Stage

-- a run has not begun, is in flight, or has ended
pub data Phase : Type 0 where
  Ready : Phase
  Moving : Phase
  Ended : Phase

pub record RunMachine : Type 0 where
  pub layout : Layout
  -- each process with its page table, by pid
  pub tasks : Map ℕ Task
  pub areas : Map (ℕ × ℕ) Area
  pub segments : Map ℕ Segment
  pub next_segment : ℕ
  pub place : Map Page ℕ
  pub pins : Map Page ℕ
  -- the bytes in each frame's buffer, or none while the buffer is out
  pub buf : Store
  pub free : List (List ℕ)
  pub online : List ℕ
  pub moved : ℕ
  pub failed : ℕ
  pub phase : Phase
  -- the run's copy jobs, in the order of its moves
  pub jobs : List Job
  -- the statuses of its requests, and the answers to its accesses so far
  pub statuses : List ℤ
  pub answers : List AccessAnswer

-- the job that copies out of a frame
abbrev pub job_from : List Job → ℕ → Option Job
job_from [] f = None
job_from (job ∷ jobs) f = if job.source.0 == f then Some job else job_from jobs f

-- the frame that a page in this frame goes to; the same frame if no job copies it
abbrev pub goes_to : List Job → ℕ → ℕ
goes_to jobs f = unwrap_or (option_map (λ job. job.target.0) (job_from jobs f)) f

-- the bytes of a page in this frame, which are in its job's source while it is copied
abbrev pub content : Store → List Job → ℕ → List ℕ
content buf jobs f = unwrap_or (option_map (λ job. job.source.1) (job_from jobs f)) (bytes_of buf f)

-- the machine read as a state: each page is in the frame that it goes to, with the bytes that it has in the one that it
-- leaves
abbrev pub state_of : RunMachine → State
state_of m =
    record {
      layout = m.layout;
      processes = with_values (process_of m.areas) m.tasks;
      areas = m.areas;
      segments = m.segments;
      next_segment = m.next_segment;
      place = with_values (λ page f. goes_to m.jobs f) m.place;
      bytes = with_values (λ page f. content m.buf m.jobs f) m.place;
      pins = m.pins;
      free = m.free;
      online = m.online;
      moved = m.moved;
      failed = m.failed;
    }
