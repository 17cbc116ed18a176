-- A run whose pages are on their way: how it begins, and what accesses make of it.
use Rattle.std.proofs.Common.{◌≡◌, ℕ, List, [], ◌∷◌, map, length, refl, sym, ap, subst, ◌∙◌}
use Rattle.std.specs.List.{AllByRecursion}
use Rattle.nm_types.specs.declared.page_move.PageMove.{PageMove}
use Rattle.nm_types.specs.State.{State}
use Rattle.nm_frames.specs.declared.job.CopyJob.{CopyJob}
use Rattle.nm_frames.specs.Job.{job_after_copy}
use Rattle.nm_pool.specs.views.Populated.{IsPopulated}
use Rattle.nm_model.specs.definitions.BeforeCopy.{PendingAccess, all_after_copy, IsInside}
use Rattle.nm_model.specs.definitions.Frames.{Store, IsHome}
use Rattle.nm_model.specs.definitions.Run.{frames_left}
use Rattle.nm_model.specs.definitions.Sound.{IsSoundInFlight}
use Rattle.nm_model.specs.definitions.Touch.{AccessResults}
use Rattle.nm_pool.specs.definitions.AfterCopy.{StoreAfterCopy, all_stored_after_copy, CanDo}
use Rattle.nm_pool.specs.views.Copies.{without_moves, with_copies, jobs_of, with_jobs_back, CanCopy, CanRefill}
use Rattle.nm_pool.specs.views.Frames.{FramesView, HasAllFrames}
use Rattle.nm_pool.proofs.AfterCopy.Finished.{done_as_many, done_home}
use Rattle.nm_pool.proofs.AfterCopy.Refilled.{all_after, all_refilled}
use Rattle.nm_pool.proofs.Copies.Copied.{refilled_is, can_refill, copies_as_many, copies_home}
use Rattle.nm_pool.proofs.Copies.Populated.{can_inside, done_populated}
use Rattle.nm_spaces.specs.views.AddressSpaces.{table_of}
use Rattle.nm_engine.specs.views.Flights.{Flight, frames_then, state_in_flight, with_store, AreOutIn}
use Rattle.nm_engine.specs.views.RunState.{IsSoundMachine}
use Rattle.nm_engine.specs.views.Shown.{shown_by, paged_frames}
use Rattle.nm_engine.proofs.InFlight.AfterCopy.{all_done_shows}
use Rattle.nm_engine.proofs.InFlight.AllAtOnce.{all_made_sound}

-- the frames of a run that has begun, once its bytes are home, are those with the pages copied
module _ {A : Type 0} (k v w : FramesView) (moves : List PageMove) (jobs : List (CopyJob A)) (left : v ≡ record k { vacated = frames_left moves })
    (out : w ≡ record v { frames = without_moves v.frames moves; room = w.room }) (laid : jobs ≡ jobs_of 0 v.frames moves) (can : CanCopy k.frames moves) where
  gone : w ≡ record k { frames = without_moves k.frames moves; vacated = frames_left moves; room = w.room }
  gone = out ∙ ap (λ (x : FramesView). record x { frames = without_moves x.frames moves; room = w.room }) left

  are : jobs ≡ jobs_of 0 k.frames moves
  are = laid ∙ ap (λ (x : FramesView). jobs_of {A = A} 0 x.frames moves) left

  pub home_is : with_jobs_back w.frames (map job_after_copy jobs) ≡ with_copies k.frames moves
  home_is = (λ i. with_jobs_back (gone i).frames (map job_after_copy (are i))) ∙ refilled_is A moves 0 k.frames can

  pub once_home : record w { frames = with_jobs_back w.frames (map job_after_copy jobs) } ≡ record k { frames = with_copies k.frames moves; vacated = frames_left moves; room = w.room }
  once_home = ap (λ (x : FramesView). record x { frames = with_jobs_back w.frames (map job_after_copy jobs) }) gone ∙ ap (λ (s : Store). record k { frames = s; vacated = frames_left moves; room = w.room }) home_is

  pub can_home : CanRefill w.frames (map job_after_copy jobs)
  can_home =
      subst (λ (js : List (CopyJob A)). CanRefill w.frames (map job_after_copy js)) (sym are)
      (subst (λ (x : FramesView). CanRefill x.frames (map job_after_copy (jobs_of {A = A} 0 k.frames moves))) (sym gone) (can_refill A moves 0 k.frames can))

  pub whole_then : HasAllFrames k → HasAllFrames (record w { frames = with_jobs_back w.frames (map job_after_copy jobs) })
  whole_then h = subst HasAllFrames (sym once_home)
      (record { lists = h.lists; buffers = copies_as_many moves k.frames ∙ h.buffers; home = λ f below. copies_home moves k.frames f (h.home f below) })

-- a job that is copied again is the same
pub copied_twice : {A : Type 0} (jobs : List (CopyJob A)) → map job_after_copy (map job_after_copy jobs) ≡ map job_after_copy jobs
copied_twice [] = refl
copied_twice (job ∷ jobs) = ap (λ js. job_after_copy job ∷ js) (copied_twice jobs)

all_populated : (fs : List ℕ) (a b : Store) → ((f : ℕ) → IsPopulated a f → IsPopulated b f) → AllByRecursion (IsPopulated a) fs → AllByRecursion (IsPopulated b) fs
all_populated [] a b keeps all = tt
all_populated (f ∷ fs) a b keeps all = (keeps f all.0, all_populated fs a b keeps all.1)

-- accesses whose pages are home
module _ {A : Type 0} (x : Flight) (jobs : List (CopyJob A)) (all_due : List PendingAccess) (h : AreOutIn x jobs) (can : AllByRecursion (CanDo x.spaces.place x.frames.frames) all_due) where
  abbrev home_jobs : List (CopyJob A)
  home_jobs = map job_after_copy jobs

  abbrev store_once_home : Store
  store_once_home = with_jobs_back x.frames.frames home_jobs

  abbrev made : StoreAfterCopy
  made = all_stored_after_copy x.spaces.place store_once_home all_due

  -- the run after them
  abbrev after : Flight
  after = with_store x (all_stored_after_copy x.spaces.place x.frames.frames all_due).store

  can_then : AllByRecursion (CanDo x.spaces.place store_once_home) all_due
  can_then = all_refilled x.spaces.place home_jobs x.frames.frames all_due h.can can

  inside : AllByRecursion IsInside all_due
  inside = can_inside x.spaces.place x.frames.frames all_due can

  both : record { state = shown_by x.spaces (record (frames_then x jobs) { frames = made.store }) x.online x.moved x.failed; answers = made.answers } ≡ all_after_copy (state_in_flight x jobs) all_due
  both = all_done_shows x.spaces.processes (table_of x.spaces) x.online x.moved x.failed (paged_frames x.spaces (frames_then x jobs)) h.kept.sound.order.place h.kept.sound.apart all_due store_once_home can_then

  later : with_jobs_back after.frames.frames home_jobs ≡ made.store
  later = ap (λ (s : StoreAfterCopy). s.store) (all_after all_due x.spaces.place home_jobs x.frames.frames h.can can).0

  pub answers_then : (all_stored_after_copy x.spaces.place x.frames.frames all_due).answers ≡ (all_after_copy (state_in_flight x jobs) all_due).answers
  answers_then = ap (λ (s : StoreAfterCopy). s.answers) (all_after all_due x.spaces.place home_jobs x.frames.frames h.can can).0 ∙ ap (λ (a : AccessResults). a.answers) both

  pub state_then : state_in_flight after jobs ≡ (all_after_copy (state_in_flight x jobs) all_due).state
  state_then = ap (λ (s : Store). shown_by x.spaces (record (x.frames) { frames = s }) x.online x.moved x.failed) later ∙ ap (λ (a : AccessResults). a.state) both

  pub out_then : AreOutIn after jobs
  out_then = record {
    can = (all_after all_due x.spaces.place home_jobs x.frames.frames h.can can).1;
    whole = record {
      lists = h.whole.lists;
      buffers = ap (λ (s : Store). length s) later ∙ done_as_many x.spaces.place all_due store_once_home ∙ h.whole.buffers;
      home = λ f below. subst (λ (s : Store). IsHome s f) (sym later) (done_home x.spaces.place all_due store_once_home f (h.whole.home f below));
    };
    kept = record {
      sound = subst (λ (s : State). IsSoundInFlight s x.frames.vacated) (sym state_then) (all_made_sound all_due (state_in_flight x jobs) x.frames.vacated inside h.kept.sound);
      as_many = h.kept.as_many;
    };
    populated = subst (λ (s : Store). AllByRecursion (IsPopulated s) x.frames.vacated) (sym later)
        (all_populated x.frames.vacated store_once_home made.store (λ f whole. done_populated x.spaces.place all_due store_once_home f inside whole) h.populated);
  }

-- the same bytes are out in the jobs once they are done
pub out_done : {A : Type 0} (x : Flight) (jobs : List (CopyJob A)) → AreOutIn x jobs → AreOutIn x (map job_after_copy jobs)
out_done {A} x jobs h =
    let same = sym (copied_twice jobs) in
    record {
      can = subst (CanRefill x.frames.frames) same h.can;
      whole = subst (λ (js : List (CopyJob A)). HasAllFrames (let k = x.frames in record k { frames = with_jobs_back k.frames js })) same h.whole;
      kept = subst (λ (js : List (CopyJob A)). IsSoundMachine (shown_by x.spaces (let k = x.frames in record k { frames = with_jobs_back k.frames js }) x.online x.moved x.failed) x.frames.vacated x.spaces.frames) same h.kept;
      populated = subst (λ (js : List (CopyJob A)). AllByRecursion (IsPopulated (with_jobs_back x.frames.frames js)) x.frames.vacated) same h.populated;
    }

pub state_done : {A : Type 0} (x : Flight) (jobs : List (CopyJob A)) → state_in_flight x (map job_after_copy jobs) ≡ state_in_flight x jobs
state_done {A} x jobs = ap (λ (js : List (CopyJob A)). shown_by x.spaces (let k = x.frames in record k { frames = with_jobs_back k.frames js }) x.online x.moved x.failed) (copied_twice jobs)
