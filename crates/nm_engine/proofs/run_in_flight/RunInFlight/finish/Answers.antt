use Rattle.std.proofs.Common.{◌≡◌, ℕ, List, length, map, sym, ap, subst, ◌∙◌}
use Rattle.std.specs.List.{AllByRecursion}
use Rattle.std.proofs.lemmas.List.{length-map}
use Rattle.nm_types.specs.State.{State}
use Rattle.nm_types.specs.declared.page_move.PageMove.{PageMove}
use Rattle.nm_frames.specs.declared.job.CopyJob.{CopyJob}
use Rattle.nm_pool.specs.views.Populated.{IsPopulated}
use Rattle.nm_model.specs.definitions.Run.{failures, frames_left, total_after, with_all_free, with_counts}
use Rattle.nm_pool.specs.views.Copies.{with_jobs_back, CanRefill}
use Rattle.nm_pool.specs.views.Frames.{FramesView, HasAllFrames}
use Rattle.nm_spaces.specs.views.AddressSpaces.{AddressSpacesView, table_of}
use Rattle.nm_engine.specs.views.Flights.{Flight, state_in_flight}
use Rattle.nm_engine.specs.views.RunState.{IsSoundMachine}
use Rattle.nm_engine.specs.views.Shown.{paged_frames, shown_by}
use Rattle.nm_engine.proofs.InFlight.Moments.{ends}
use Rattle.nm_engine.proofs.MidRun.RunPages.{end_shows, end_kept}
use Rattle.nm_engine.proofs.Shown.FreeFrames.{can_free}
use Rattle.nm_engine.proofs.run_in_flight.RunInFlight.finish.Goals as goal

pub settle-spaces-requires-clause-below : goal.settle-spaces-requires-clause-below
settle-spaces-requires-clause-below g c = c.self.invariant.below

pub settle-spaces-requires-clause-among : goal.settle-spaces-requires-clause-among
settle-spaces-requires-clause-among g c = c.self.invariant.among

pub put_back-frames-requires-clause-can : goal.put_back-frames-requires-clause-can
put_back-frames-requires-clause-can g c =
    let jobs = c.args.jobs.items in
    subst (λ (x : Flight). CanRefill x.frames.frames jobs) (sym c.self.view_is)
    (subst (λ (js : List (CopyJob g.row.A.Denot)). CanRefill c.args.self.frames.frames js) c.requires.done c.requires.out.can)

-- the frames, where these bytes are home
abbrev with_bytes : {A : Type 0} → FramesView → List (CopyJob A) → FramesView
with_bytes k jobs = record k { frames = with_jobs_back k.frames jobs }

pub put_back-frames-requires-clause-home : goal.put_back-frames-requires-clause-home
put_back-frames-requires-clause-home g c =
    let jobs = c.args.jobs.items in
    (subst (λ (x : Flight). HasAllFrames (with_bytes x.frames jobs)) (sym c.self.view_is)
    (subst (λ (js : List (CopyJob g.row.A.Denot)). HasAllFrames (with_bytes c.args.self.frames js)) c.requires.done c.requires.out.whole)).home

pub put_back-frames-requires-clause-populated : goal.put_back-frames-requires-clause-populated
put_back-frames-requires-clause-populated g c =
    let jobs = c.args.jobs.items in
    subst (λ (x : Flight). AllByRecursion (IsPopulated (with_jobs_back x.frames.frames jobs)) x.frames.vacated) (sym c.self.view_is)
    (subst (λ (js : List (CopyJob g.row.A.Denot)). AllByRecursion (IsPopulated (with_jobs_back c.args.self.frames.frames js)) c.args.self.frames.vacated) c.requires.done c.requires.out.populated)

-- the parts of a machine are kept where the pages have arrived, and its frames have their bytes
arrived_kept : {A : Type 0} (x i : Flight) (jobs given : List (CopyJob A)) (z : AddressSpacesView) (w : FramesView) → i ≡ x → given ≡ jobs → z ≡ i.spaces → w ≡ record (with_bytes i.frames jobs) { room = w.room }
    → IsSoundMachine (shown_by x.spaces (with_bytes x.frames given) x.online x.moved x.failed) x.frames.vacated x.spaces.frames → IsSoundMachine (shown_by z w i.online i.moved i.failed) w.vacated z.frames
arrived_kept {A = A} x i jobs given z w view done settled put kept =
    subst (λ (y : AddressSpacesView). IsSoundMachine (shown_by y w i.online i.moved i.failed) w.vacated y.frames) (sym settled)
    (subst (λ (k : FramesView). IsSoundMachine (shown_by i.spaces k i.online i.moved i.failed) k.vacated i.spaces.frames) (sym put)
    (subst (λ (y : Flight). IsSoundMachine (shown_by y.spaces (with_bytes y.frames jobs) y.online y.moved y.failed) y.frames.vacated y.spaces.frames) (sym view)
    (subst (λ (js : List (CopyJob A)). IsSoundMachine (shown_by x.spaces (with_bytes x.frames js) x.online x.moved x.failed) x.frames.vacated x.spaces.frames) done kept)))

pub free_vacated-moved-requires : goal.free_vacated-moved-requires
free_vacated-moved-requires g c =
    let i = c.self.inside in
    let kept = arrived_kept c.args.self _ c.args.jobs.items _ c.settle-spaces.result c.put_back-frames.result c.self.view_is c.requires.done c.settle-spaces.ensures c.put_back-frames.ensures.frames c.requires.out.kept in
    can_free c.settle-spaces.result c.put_back-frames.result i.online i.totals.moved i.totals.failed kept.sound

pub invariant_of-machine : goal.invariant_of-machine
invariant_of-machine g c =
    let i = c.self.inside in
    let y = c.settle-spaces.result in
    let k : FramesView = c.put_back-frames.result in
    let kept = arrived_kept c.args.self _ c.args.jobs.items _ y k c.self.view_is c.requires.done c.settle-spaces.ensures c.put_back-frames.ensures.frames c.requires.out.kept in
    record {
      kept =
          end_kept y.processes (table_of y) (paged_frames y k) i.online i.totals.moved i.totals.failed
          (paged_frames y c.free_vacated-moved.new.self) (length k.vacated) (failures c.args.statuses.now) _ _ (ap (paged_frames y) c.free_vacated-moved.ensures.freed)
          (c.after.ensures.moved ∙ ap (λ n. total_after i.totals.moved n) c.free_vacated-moved.ensures.count)
          (c.after.ensures.failed ∙ ap (λ n. total_after i.totals.failed n) c.failures-failed.ensures)
          kept;
      none = ap (λ (v : FramesView). v.vacated) c.free_vacated-moved.ensures.freed;
    }

pub returns-clause-state : goal.returns-clause-state
returns-clause-state g c =
    let i = c.self.inside in
    let y = c.settle-spaces.result in
    let k : FramesView = c.put_back-frames.result in
    let k0 : FramesView = i.frames in
    let jobs = c.args.jobs.items in
    let now = state_in_flight c.args.self jobs in
    let counted : State → List ℕ → State = λ s l. with_counts (with_all_free s l) (length l) (failures c.args.statuses.now) in
    let shows : shown_by y k i.online i.totals.moved i.totals.failed ≡ now =
    (λ j. shown_by (c.settle-spaces.ensures j) (c.put_back-frames.ensures.frames j) i.online i.totals.moved i.totals.failed)
    ∙ ap (λ (js : List (CopyJob g.row.A.Denot)). shown_by i.spaces.spaces (with_bytes k0 js) i.online i.totals.moved i.totals.failed) (sym c.requires.done)
    ∙ ap (λ (x : Flight). state_in_flight x jobs) c.self.view_is in
    let left : k.vacated ≡ frames_left c.args.self.moves =
    ap (λ (v : FramesView). v.vacated) c.put_back-frames.ensures.frames ∙ c.self.invariant.left ∙ ap (λ (x : Flight). frames_left x.moves) c.self.view_is in
    end_shows y.processes (table_of y) (paged_frames y k) i.online i.totals.moved i.totals.failed
    (paged_frames y c.free_vacated-moved.new.self) (length k.vacated) (failures c.args.statuses.now) _ _ (ap (paged_frames y) c.free_vacated-moved.ensures.freed)
    (c.after.ensures.moved ∙ ap (λ n. total_after i.totals.moved n) c.free_vacated-moved.ensures.count)
    (c.after.ensures.failed ∙ ap (λ n. total_after i.totals.failed n) c.failures-failed.ensures)
    ∙ (λ j. counted (shows j) (left j))
    ∙ ap (λ n. with_counts (with_all_free now (map (λ (t : PageMove). t.from) c.args.self.moves)) n (failures c.args.statuses.now)) (length-map c.args.self.moves (λ (t : PageMove). t.from))

pub returns-clause-event : goal.returns-clause-event
returns-clause-event g c m now all told = ends m c.args.self c.args.jobs.items c.args.statuses.now now all told ∙ sym (returns-clause-state g c)
