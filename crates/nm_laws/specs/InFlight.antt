-- What holds of the run machine while its run is in flight.
use Rattle.std.specs.Prelude.{◌≡◌, ℕ, ◌<◌, List, Bool, true, false, Option, Some, None, map, length, if◌then◌else◌}
use Rattle.std.specs.Option.{is_some}
use Rattle.std.specs.List.{AllByRecursion, list_any}
use Rattle.nm_types.specs.declared.entry.Entry.{Entry}
use Rattle.nm_types.specs.declared.entry.Entry.TheVariants.{Zero, Frame, Held}
use Rattle.nm_types.specs.declared.page.Page.{Page}
use Rattle.nm_types.specs.declared.sight.Sight.{Sight}
use Rattle.nm_types.specs.declared.sight.Sight.TheVariants.{ZeroPage, Sees}
use Rattle.nm_types.specs.Layout.{frame_count}
use Rattle.nm_types.specs.Map.{Map, get, page_cmp, same_page}
use Rattle.nm_model.specs.definitions.Events.{hands, held_by, is_given}
use Rattle.nm_model.specs.definitions.PageTables.{entry_at, sight_of, entry_of}
use Rattle.nm_model.specs.definitions.RunMachine.{RunMachine, Job, Moving, goes_to, job_from, state_of}
use Rattle.nm_model.specs.definitions.Sound.{IsSoundInFlight}

-- the frames that the pages of these jobs leave
abbrev pub sources : List Job → List ℕ
sources jobs = map (λ job. job.source.0) jobs

-- the frames that they take
abbrev pub targets : List Job → List ℕ
targets jobs = map (λ job. job.target.0) jobs

-- each job that is given back is copied
abbrev pub AreCopied : List Job → Type 0
AreCopied jobs = AllByRecursion (λ job. is_given job.stage ≡ true → job.target.1 ≡ job.source.1) jobs

-- whether a job copies out of this frame; false if there is no frame
abbrev pub is_source : List Job → Option ℕ → Bool
is_source jobs None = false
is_source jobs (Some f) = is_some (job_from jobs f)

-- the job copies a page
abbrev pub CopiesPage : RunMachine → List Job → ℕ × ℕ → Type 0
CopiesPage m jobs ends = (p : Page) × (get page_cmp m.place p ≡ Some ends.0) × (goes_to jobs ends.0 ≡ ends.1)

-- the frame that a job's page leaves, and the one that it takes
abbrev pub frames_of_job : Job → ℕ × ℕ
frames_of_job job = (job.source.0, job.target.0)

-- an entry that names a frame is held, on its way there
abbrev pub hold_entry : Entry → Entry
hold_entry Zero = Zero
hold_entry (Frame f) = Held f
hold_entry (Held f) = Held f

-- the entry for what is seen while these pages are on their way to the frames that they are placed in
abbrev pub entry_in_flight : Map Page ℕ → List Page → Sight → Entry
entry_in_flight place moved ZeroPage = Zero
entry_in_flight place moved (Sees p) =
    let e = entry_of place (Sees p) in if list_any (same_page p) moved then hold_entry e else e

-- these pages are moving
pub record IsInFlight (m : RunMachine) (moved : List Page) : Type 0 where
  pub moving : m.phase ≡ Moving
  pub sound : IsSoundInFlight (state_of m) (sources m.jobs)
  -- an entry names the frame of its page, or is held and names the frame to which the page goes
  pub entries : (pid v : ℕ) (e : Entry) → entry_at m.tasks pid v ≡ Some e → e ≡ held_by m.jobs (entry_of m.place (sight_of m.areas pid v e))
  -- the pages that move are those in the sources of jobs
  pub pages : (p : Page) → list_any (same_page p) moved ≡ is_source m.jobs (get page_cmp m.place p)
  pub copies : AllByRecursion (CopiesPage m m.jobs) (map frames_of_job m.jobs)
  pub copied : AreCopied m.jobs
  pub buffers : length m.buf ≡ frame_count m.layout
  pub once : (f : ℕ) → f < frame_count m.layout → length (hands m f) ≡ 1
