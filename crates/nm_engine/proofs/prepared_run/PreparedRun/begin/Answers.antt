use Rattle.std.proofs.Common.{◌≡◌, ℕ, ◌+◌, ◌<◌, List, [], ◌∷◌, map, refl, sym, ap, subst, ◌∙◌, arith}
use Rattle.std.specs.Prelude.{option_map, slice_get}
use Rattle.std.specs.List.{AllByRecursion}
use Rattle.std.specs.Ordering.{nat_cmp}
use Rattle.nm_types.specs.Map.{get}
use Rattle.nm_types.specs.State.{State}
use Rattle.nm_frames.specs.Job.{job_after_copy}
use Rattle.nm_pool.specs.views.Populated.{IsPopulated}
use Rattle.nm_laws.specs.Laws.{with_moves}
use Rattle.nm_laws.specs.InFlight.{entry_in_flight}
use Rattle.nm_model.specs.definitions.BeforeCopy.{with_fronts, frames_taken}
use Rattle.nm_model.specs.definitions.Frames.{Store}
use Rattle.nm_model.specs.definitions.Run.{frames_left}
use Rattle.nm_model.specs.definitions.Sound.{IsSound}
use Rattle.nm_types.specs.declared.page_move.PageMove.{PageMove}
use Rattle.nm_model.specs.definitions.Seen.{sight_in}
use Rattle.nm_spaces.specs.definitions.Moves.{all_moved}
use Rattle.nm_spaces.specs.views.AddressSpaces.{AddressSpacesView}
use Rattle.nm_spaces.proofs.Held.HeldEntries.{held_is_taken, frames_stay, takes_below}
use Rattle.nm_pool.specs.definitions.AfterCopy.{CanDo}
use Rattle.nm_pool.specs.views.Copies.{CanCopy, HasBoth, without_moves, jobs_of, with_jobs_back, with_copies, without_move}
use Rattle.nm_pool.specs.views.Frames.{FramesView}
use Rattle.nm_pool.proofs.Copies.Copied.{tickets_from}
use Rattle.nm_pool.proofs.Copies.Populated.{after_populated}
use Rattle.nm_engine.specs.views.Flights.{IsReadyFor, pair_of}
use Rattle.nm_engine.specs.views.RunState.{RunState, IsSoundMachine}
use Rattle.nm_engine.specs.views.Shown.{shown_by}
use Rattle.nm_engine.specs.views.Spaces.{spaces_of}
use Rattle.nm_engine.proofs.InFlight.AllAtOnce.{IsPrepared, prepared, lefts_populated, both_whole, remap, can_copy, can_meanwhile, finished_shows, finished_kept}
use Rattle.nm_engine.proofs.InFlight.Flights.{once_home, home_is, can_home, whole_then}
use Rattle.nm_engine.proofs.InFlight.Moments.{begins, pages_of}
use Rattle.nm_engine.proofs.prepared_run.PreparedRun.begin.Given.{Over}
use Rattle.nm_engine.proofs.prepared_run.PreparedRun.begin.Goals.{After-vacate_each}
use Rattle.nm_engine.proofs.prepared_run.PreparedRun.begin.Goals as goal

-- what the beginning of the run stands on
all_there : (g : Over) (c : After-vacate_each g) (target : ℕ) → IsReadyFor c.args.self target c.args.moves.now
    → let i = c.self.inside in IsPrepared i.spaces i.frames i.online i.totals.moved i.totals.failed target c.args.moves.now []
all_there g c target ready =
    let i = c.self.inside in
    prepared i.spaces i.frames i.online i.totals.moved i.totals.failed target c.args.moves.now [] c.args.self c.self.view_is c.self.invariant c.vacate_each.ensures.whole
    ready.node ready.taken ready.sound ready.can tt c.vacate_each.ensures.populated

pub vacate_each-requires-clause-populated : goal.vacate_each-requires-clause-populated
vacate_each-requires-clause-populated g c =
    let i = c.self.inside in
    let r = c.requires.ready in
    lefts_populated i.spaces i.frames i.online i.totals.moved i.totals.failed r.0 c.args.moves.now [] c.args.self c.self.view_is r.1.sound r.1.can

pub take_out-frames-requires : goal.take_out-frames-requires
take_out-frames-requires g c =
    let i = c.self.inside in
    let r = c.requires.ready in
    let moves = c.args.moves.now in
    let h = all_there g (goal.at.take_out-frames-requires g c).After-vacate_each r.0 r.1 in
    let vacated = c.vacate_each.ensures.vacated in
    record {
      can = subst (λ (v : FramesView). CanCopy v.frames moves) (sym vacated) (can_copy i.spaces i.frames i.online i.totals.moved i.totals.failed r.0 moves [] h);
      populated = subst (λ (v : FramesView). AllByRecursion (HasBoth v.frames) moves) (sym vacated) (both_whole i.spaces i.frames i.online i.totals.moved i.totals.failed r.0 moves [] h);
      few = omega (arith, ap (λ (v : FramesView). v.room) vacated, ap (λ (x : RunState). x.room) c.self.view_is, c.requires.few);
    }

pub hold-requires : goal.hold-requires
hold-requires g c =
    let i = c.self.inside in
    let r = c.requires.ready in
    let moves = c.args.moves.now in
    let h = all_there g (goal.at.hold-requires g c).After-vacate_each r.0 r.1 in
    record { moves = remap i.spaces i.frames i.online i.totals.moved i.totals.failed r.0 moves [] h }

pub invariant_of-run : goal.invariant_of-run
invariant_of-run g c =
    let i = c.self.inside in
    let r = c.requires.ready in
    let y = i.spaces in
    let moves = c.args.moves.now in
    let h = all_there g (goal.at.invariant_of-run g c).After-vacate_each r.0 r.1 in
    let can = remap i.spaces i.frames i.online i.totals.moved i.totals.failed r.0 moves [] h in
    record {
      entries = c.hold.ensures.entries;
      among = λ f pid v held.
          held_is_taken y moves (sight_in (get nat_cmp (all_moved y moves).processes pid) v) f
          (sym (c.hold.ensures.entries pid v ∙ ap (λ (z : AddressSpacesView). option_map (entry_in_flight z.place (pages_of moves)) (sight_in (get nat_cmp z.processes pid) v)) c.hold.ensures.spaces) ∙ held);
      below = subst (λ n. AllByRecursion (λ t. t.to < n) moves) (sym (ap (λ (z : AddressSpacesView). z.frames) c.hold.ensures.spaces ∙ frames_stay moves y)) (takes_below moves y can);
      left = ap (λ (v : FramesView). v.vacated) (c.take_out-frames.ensures.frames ∙ ap (λ (v : FramesView). record v { frames = without_moves v.frames moves; room = c.take_out-frames.result.0.room }) c.vacate_each.ensures.vacated);
    }

pub returns-clause-spaces : goal.returns-clause-spaces
returns-clause-spaces g c =
    let y = c.self.inside.spaces in
    let moves = c.args.moves.now in
    c.hold.ensures.spaces ∙ (λ j. all_moved (record y { frames = c.self.invariant.as_many j }) moves)
    ∙ ap (λ (x : RunState). all_moved (spaces_of x.state) moves) c.self.view_is

pub returns-clause-state : goal.returns-clause-state
returns-clause-state g c target ready =
    let i = c.self.inside in
    let k : FramesView = i.frames in
    let moves = c.args.moves.now in
    let h = all_there g (goal.at.returns-clause-state g c).After-vacate_each target ready in
    let w : FramesView = c.take_out-frames.result.0 in
    let jobs = c.take_out-frames.result.1.items in
    let is = once_home {A = g.row.A.Denot} k c.vacate_each.new.self w moves jobs c.vacate_each.ensures.vacated c.take_out-frames.ensures.frames c.take_out-frames.ensures.jobs
    (can_copy i.spaces i.frames i.online i.totals.moved i.totals.failed target moves [] h) in
    let then : FramesView = record k { frames = with_copies k.frames moves; vacated = frames_left moves; room = w.room } in
    (λ j. shown_by (c.hold.ensures.spaces j) (is j) i.online i.totals.moved i.totals.failed)
    ∙ finished_shows i.spaces i.frames i.online i.totals.moved i.totals.failed target moves [] h then refl
    ∙ ap (λ (x : RunState). with_moves (with_fronts x.state target (frames_taken moves)) target moves) c.self.view_is

pub returns-clause-entries : goal.returns-clause-entries
returns-clause-entries g c = c.hold.ensures.entries

pub returns-clause-out : goal.returns-clause-out
returns-clause-out g c =
    let i = c.self.inside in
    let k : FramesView = i.frames in
    let r = c.requires.ready in
    let moves = c.args.moves.now in
    let h = all_there g (goal.at.returns-clause-out g c).After-vacate_each r.0 r.1 in
    let can = can_copy i.spaces i.frames i.online i.totals.moved i.totals.failed r.0 moves [] h in
    let v : FramesView = c.vacate_each.new.self in
    let w : FramesView = c.take_out-frames.result.0 in
    let jobs = c.take_out-frames.result.1.items in
    let out = c.take_out-frames.ensures in
    let left = c.vacate_each.ensures.vacated in
    let is = once_home {A = g.row.A.Denot} k v w moves jobs left out.frames out.jobs can in
    let home = home_is {A = g.row.A.Denot} k v w moves jobs left out.frames out.jobs can in
    let then : FramesView = record k { frames = with_copies k.frames moves; vacated = frames_left moves; room = w.room } in
    let leaves : AllByRecursion (IsPopulated k.frames) (frames_left moves) = lefts_populated i.spaces i.frames i.online i.totals.moved i.totals.failed r.0 moves [] c.args.self c.self.view_is r.1.sound r.1.can in
    let stays : w.vacated ≡ frames_left moves = ap (λ (x : FramesView). x.vacated) is in
    record {
      can = can_home {A = g.row.A.Denot} k v w moves jobs left out.frames out.jobs can;
      whole = whole_then {A = g.row.A.Denot} k v w moves jobs left out.frames out.jobs can c.vacate_each.ensures.whole;
      kept = subst (λ (z : AddressSpacesView). IsSoundMachine (shown_by z (record w { frames = with_jobs_back w.frames (map job_after_copy jobs) }) i.online i.totals.moved i.totals.failed) w.vacated z.frames) (sym c.hold.ensures.spaces)
          (subst (λ (x : FramesView). IsSoundMachine (shown_by (all_moved i.spaces moves) x i.online i.totals.moved i.totals.failed) x.vacated (all_moved i.spaces moves).frames) (sym is)
          (finished_kept i.spaces i.frames i.online i.totals.moved i.totals.failed r.0 moves [] h then refl));
      populated = subst (λ (l : List ℕ). AllByRecursion (IsPopulated (with_jobs_back w.frames (map job_after_copy jobs))) l) (sym stays)
          (subst (λ (s : Store). AllByRecursion (IsPopulated s) (frames_left moves)) (sym home)
          (after_populated (frames_left moves) (all_moved i.spaces moves).place [] moves k.frames k.frames (both_whole i.spaces i.frames i.online i.totals.moved i.totals.failed r.0 moves [] h) tt leaves));
    }

-- the jobs of moves are between the frames that these name
pairs_are : (A : Type 0) (moves : List PageMove) (k : ℕ) (store : Store) → map (pair_of {A = A}) (jobs_of k store moves) ≡ map (λ t. (t.from, t.to)) moves
pairs_are A [] k store = refl
pairs_are A (t ∷ moves) k store = ap (λ ps. (t.from, t.to) ∷ ps) (pairs_are A moves (k + 1) (without_move store t))

pub returns-clause-pairs : goal.returns-clause-pairs
returns-clause-pairs g c =
    let v : FramesView = c.vacate_each.new.self in
    ap (map pair_of) c.take_out-frames.ensures.jobs ∙ pairs_are g.row.A.Denot c.args.moves.now 0 v.frames

pub returns-clause-tickets : goal.returns-clause-tickets
returns-clause-tickets g c t job at =
    let v : FramesView = c.vacate_each.new.self in
    let is = tickets_from g.row.A.Denot c.args.moves.now 0 v.frames t job (ap (λ js. slice_get js t) (sym c.take_out-frames.ensures.jobs) ∙ at) in
    omega (arith, is)

pub returns-clause-pending : goal.returns-clause-pending
returns-clause-pending g c d pending =
    let i = c.self.inside in
    let k : FramesView = i.frames in
    let r = c.requires.ready in
    let moves = c.args.moves.now in
    let h = prepared i.spaces i.frames i.online i.totals.moved i.totals.failed r.0 moves (d ∷ []) c.args.self c.self.view_is c.self.invariant c.vacate_each.ensures.whole
    r.1.node r.1.taken r.1.sound r.1.can (pending, tt) c.vacate_each.ensures.populated in
    let can = can_meanwhile i.spaces i.frames i.online i.totals.moved i.totals.failed r.0 moves (d ∷ []) h in
    let gone = c.take_out-frames.ensures.frames ∙ ap (λ (v : FramesView). record v { frames = without_moves v.frames moves; room = c.take_out-frames.result.0.room }) c.vacate_each.ensures.vacated in
    subst (λ (z : AddressSpacesView). CanDo z.place c.take_out-frames.result.0.frames d) (sym c.hold.ensures.spaces)
    (subst (λ (x : FramesView). CanDo (all_moved i.spaces moves).place x.frames d) (sym gone) can.0)

pub returns-clause-event : goal.returns-clause-event
returns-clause-event g c m target wanted p rest alike ready at plan taken =
    let moves = c.args.moves.now in
    begins {A = g.row.A.Denot} m _ c.take_out-frames.result.1.items target wanted p
    c.hold.ensures.entries
    rest (subst IsSound (sym at) ready.sound) alike plan taken
    (returns-clause-state g c target ready ∙ ap (λ (s : State). with_moves s target moves) (sym at))
