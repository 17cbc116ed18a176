use Rattle.std.proofs.Common.{◌≡◌, ℕ, List, ◌<◌, ◌++◌, ap, take, drop, sym, subst, ◌∙◌, arith, length}
use Rattle.std.specs.Prelude.{slice_set}
use Rattle.std.specs.List.{AllByRecursion}
use Rattle.nm_pool.specs.views.Populated.{IsPopulated}
use Rattle.nm_laws.proofs.Early.Phases.{tos_are}
use Rattle.nm_types.specs.Layout.{node_count}
use Rattle.nm_pool.specs.views.Frames.{FramesView, KeepsBytes, free_on}
use Rattle.nm_spaces.specs.views.AddressSpaces.{AddressSpacesView}
use Rattle.nm_engine.specs.views.RunState.{RunState, IsSoundMachine}
use Rattle.nm_laws.specs.Moves.{CanMove}
use Rattle.nm_areas.proofs.Counted.{err_always}
use Rattle.nm_model.specs.definitions.BeforeCopy.{frames_taken, without_fronts}
use Rattle.nm_engine.specs.views.Shown.{shown_by}
use Rattle.nm_types.specs.State.{State}
use Rattle.nm_types.specs.declared.page_move.PageMove.{PageMove}
use Rattle.nm_engine.proofs.InFlight.TakenFrames.{taken_kept}
use Rattle.nm_engine.proofs.Shown.Moves.{tos_below}
use Rattle.nm_engine.proofs.Shown.PopulatedFrames.{same_shown, kept_again, view_again}
use Rattle.nm_engine.proofs.prepared_run.PreparedRun.take_frames.Goals as goal

-- the value of these parts
abbrev value_of : AddressSpacesView → FramesView → List ℕ → ℕ → ℕ → RunState
value_of y k online moved failed = record { state = shown_by y k online moved failed; left = k.vacated; room = k.room }

-- more room changes nothing else
module _ (y : AddressSpacesView) (k r : FramesView) (online : List ℕ) (moved failed : ℕ) (same : r ≡ record k { room = r.room }) where
  roomy_kept : IsSoundMachine (shown_by y k online moved failed) k.vacated y.frames → IsSoundMachine (shown_by y r online moved failed) r.vacated y.frames
  roomy_kept kept = subst (λ (x : FramesView). IsSoundMachine (shown_by y x online moved failed) x.vacated y.frames) (sym same) kept

  roomy_view : (x : RunState) → value_of y k online moved failed ≡ x → value_of y r online moved failed ≡ record x { room = r.room }
  roomy_view x view = ap (λ (z : FramesView). value_of y z online moved failed) same ∙ ap (λ (z : RunState). record z { room = r.room }) view

-- the parts of a machine that has more room and whose frames have their bytes: it can still make these moves, which take
-- the first frames of the node
record IsReady (y : AddressSpacesView) (w : FramesView) (online : List ℕ) (moved failed : ℕ) (x : RunState) (target : ℕ) (moves : List PageMove) : Type 0 where
  kept : IsSoundMachine (shown_by y w online moved failed) w.vacated y.frames
  view : value_of y w online moved failed ≡ x
  below : target < length w.free
  can : CanMove (shown_by y w online moved failed) target moves
  front : frames_taken moves ≡ take (length moves) (free_on w target)

populated : (y : AddressSpacesView) (k r w : FramesView) (online : List ℕ) (moved failed : ℕ) (x : RunState) (target : ℕ) (moves : List PageMove) → r ≡ record k { room = r.room } → w ≡ record r { frames = w.frames } → KeepsBytes r.frames w.frames
    → IsSoundMachine (shown_by y k online moved failed) k.vacated y.frames → value_of y k online moved failed ≡ x → target < node_count x.state.layout → CanMove x.state target moves → IsReady y w online moved failed (record x { room = r.room }) target moves
populated y k r w online moved failed x target moves room same keeps kept view inside can =
    let roomy = roomy_kept y k r online moved failed room kept in
    let kept_then = kept_again y r w online moved failed same keeps roomy in
    let view_then = view_again y r w online moved failed same keeps _ roomy (roomy_view y k r online moved failed room x view) in
    let nodes = ap (λ (z : RunState). node_count z.state.layout) view_then in
    let below : target < length w.free = omega (arith, nodes, kept_then.sound.frames.lists, inside) in
    let can_then = subst (λ (z : RunState). CanMove z.state target moves) (sym view_then) can in
    record { kept = kept_then; view = view_then; below = below; can = can_then; front = tos_are moves (shown_by y w online moved failed) target below can_then }

pub invariant_of-self : goal.invariant_of-self
invariant_of-self g c =
    let i = c.self.inside in
    roomy_kept i.spaces i.frames c.reserve.new.self i.online i.totals.moved i.totals.failed c.in_err-reserve.ensures.same c.self.invariant

pub returns-in_err-reserve-clause-err : goal.returns-in_err-reserve-clause-err
returns-in_err-reserve-clause-err g c =
    let i = c.self.inside in
    err_always c.from_residual.result (roomy_view i.spaces i.frames c.reserve.new.self i.online i.totals.moved i.totals.failed c.in_err-reserve.ensures.same c.args.self.now c.self.view_is)

pub populate_each-requires : goal.populate_each-requires
populate_each-requires g c =
    let i = c.self.inside in
    let r : FramesView = c.reserve.new.self in
    let room = c.in_ok-reserve.ensures.same in
    let kept = roomy_kept i.spaces i.frames r i.online i.totals.moved i.totals.failed room c.self.invariant in
    let view = roomy_view i.spaces i.frames r i.online i.totals.moved i.totals.failed room c.args.self.now c.self.view_is in
    let same = ap (λ (x : RunState). node_count x.state.layout) view in
    tos_below c.args.moves.now _ c.args.target r.vacated (omega (arith, same, kept.sound.frames.lists, c.requires.target)) kept.sound.frames
    (subst (λ (x : RunState). CanMove x.state c.args.target c.args.moves.now) (sym view) c.requires.moves)

-- the first frames of a node are taken, and these belong to the run
abbrev left_with : FramesView → ℕ → ℕ → List ℕ → FramesView
left_with k node n frames = record k { free = slice_set k.free node (drop n (free_on k node)); vacated = k.vacated ++ frames }

pub take_for_run-requires-clause-populated : goal.take_for_run-requires-clause-populated
take_for_run-requires-clause-populated g c =
    let i = c.self.inside in
    let k : FramesView = c.populate_each.new.self in
    let there = c.in_ok-populate_each.ensures in
    let is = populated i.spaces i.frames c.reserve.new.self k i.online i.totals.moved i.totals.failed c.args.self.now c.args.target c.args.moves.now
    c.in_ok-reserve.ensures.same there.same there.kept c.self.invariant c.self.view_is c.requires.target c.requires.moves in
    subst (AllByRecursion (IsPopulated k.frames)) is.front there.populated

pub invariant_of-self-in_err-populate_each : goal.invariant_of-self-in_err-populate_each
invariant_of-self-in_err-populate_each g c =
    let i = c.self.inside in
    let r : FramesView = c.reserve.new.self in
    kept_again i.spaces r c.populate_each.new.self i.online i.totals.moved i.totals.failed c.in_err-populate_each.ensures.same c.in_err-populate_each.ensures.kept
    (roomy_kept i.spaces i.frames r i.online i.totals.moved i.totals.failed c.in_ok-reserve.ensures.same c.self.invariant)

pub invariant_of-self-2 : goal.invariant_of-self-2
invariant_of-self-2 g c =
    let i = c.self.inside in
    let k : FramesView = c.populate_each.new.self in
    let there = c.in_ok-populate_each.ensures in
    let is = populated i.spaces i.frames c.reserve.new.self k i.online i.totals.moved i.totals.failed c.args.self.now c.args.target c.args.moves.now
    c.in_ok-reserve.ensures.same there.same there.kept c.self.invariant c.self.view_is c.requires.target c.requires.moves in
    taken_kept i.spaces k c.take_for_run.new.self i.online i.totals.moved i.totals.failed c.args.target c.args.moves.now is.kept
    (ap (λ (x : RunState). x.left) is.view ∙ c.requires.none) is.below is.can
    (c.take_for_run.ensures.taken ∙ ap (left_with k c.args.target (length c.args.moves.now)) (sym is.front))

pub returns-in_err-populate_each-clause-err : goal.returns-in_err-populate_each-clause-err
returns-in_err-populate_each-clause-err g c =
    let i = c.self.inside in
    let r : FramesView = c.reserve.new.self in
    let k : FramesView = c.populate_each.new.self in
    let there = c.in_err-populate_each.ensures in
    let room = c.in_ok-reserve.ensures.same in
    let roomy = roomy_kept i.spaces i.frames r i.online i.totals.moved i.totals.failed room c.self.invariant in
    let view = view_again i.spaces r k i.online i.totals.moved i.totals.failed there.same there.kept _ roomy (roomy_view i.spaces i.frames r i.online i.totals.moved i.totals.failed room c.args.self.now c.self.view_is) in
    let kept_room : k.room ≡ r.room = ap (λ (x : FramesView). x.room) there.same in
    err_always c.from_residual-in_err-populate_each.result (view ∙ ap (λ n. record (c.args.self.now) { room = n }) (sym kept_room))

pub returns-clause-taken : goal.returns-clause-taken
returns-clause-taken g c =
    let i = c.self.inside in
    let r : FramesView = c.reserve.new.self in
    let k : FramesView = c.populate_each.new.self in
    let there = c.in_ok-populate_each.ensures in
    let room = c.in_ok-reserve.ensures.same in
    let taken = c.take_for_run.ensures.taken in
    let roomy = roomy_kept i.spaces i.frames r i.online i.totals.moved i.totals.failed room c.self.invariant in
    let is = populated i.spaces i.frames r k i.online i.totals.moved i.totals.failed c.args.self.now c.args.target c.args.moves.now
    room there.same there.kept c.self.invariant c.self.view_is c.requires.target c.requires.moves in
    record {
      state =
          ap (λ (x : FramesView). shown_by i.spaces x i.online i.totals.moved i.totals.failed) taken
          ∙ ap (λ (s : State). without_fronts s c.args.target (length c.args.moves.now))
          (same_shown i.spaces r k i.online i.totals.moved i.totals.failed there.same there.kept r.vacated roomy.sound
          ∙ ap (λ (x : RunState). x.state) (roomy_view i.spaces i.frames r i.online i.totals.moved i.totals.failed room c.args.self.now c.self.view_is));
      left =
          ap (λ (x : FramesView). x.vacated) taken
          ∙ ap (λ xs. xs ++ take (length c.args.moves.now) (free_on k c.args.target)) (ap (λ (x : RunState). x.left) is.view ∙ c.requires.none) ∙ sym is.front;
      room = omega (arith, ap (λ (x : FramesView). x.room) taken, ap (λ (x : FramesView). x.room) there.same, c.in_ok-reserve.ensures.room);
    }
