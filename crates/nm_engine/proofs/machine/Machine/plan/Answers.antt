use Rattle.std.proofs.Common.{◌≡◌, ◌≤◌, ◌<◌, ap, sym, subst, ◌∙◌, length, arith, take, map}
use Rattle.std.specs.Prelude.{OnErr}
use Rattle.std.proofs.lemmas.List.{length-map}
use Rattle.std.proofs.lemmas.Result.{IfOk-weaker}
use Rattle.nm_areas.proofs.Counted.{err_always}
use Rattle.nm_types.specs.Layout.{Layout, node_count}
use Rattle.nm_types.specs.State.{State, free_list}
use Rattle.nm_model.specs.definitions.Seen.{look_in, frame_and_pin}
use Rattle.nm_runs.specs.Shown.{class_shown, ShowsItsFrames}
use Rattle.nm_model.specs.definitions.Status.{status_or_move}
use Rattle.nm_laws.specs.Moves.{IsPlanOf}
use Rattle.nm_engine.specs.views.Shown.{shown_by}
use Rattle.nm_engine.proofs.Runs.OneByOne.{shows_its_frames, classes_by_view, planned_is, is_plan_of}
use Rattle.nm_engine.proofs.machine.Machine.plan.Goals as goal

pub classify-requires-clause-frames : goal.classify-requires-clause-frames
classify-requires-clause-frames g c =
    let i = c.self.inside in
    let y = i.spaces in
    subst (λ (l : Layout). ShowsItsFrames l (λ pid v. look_in y.processes y.areas y.place y.pins pid v) (λ p. frame_and_pin y.place y.pins p)) (sym c.geometry-geometry.ensures)
    (shows_its_frames (shown_by y i.frames i.online i.totals.moved i.totals.failed) i.frames.vacated c.self.invariant.kept.sound.frames)

pub plan-requires : goal.plan-requires
plan-requires g c =
    let same = ap (λ (s : State). node_count s.layout) c.self.view_is in
    let seen = ap node_count c.geometry-geometry.ensures in
    omega (arith, c.requires.target, c.node_count.ensures.machine.few_nodes, seen, same)

pub returns-clause-plan : goal.returns-clause-plan
returns-clause-plan g c =
    let i = c.self.inside in
    let s : State = shown_by i.spaces i.frames i.online i.totals.moved i.totals.failed in
    let t = c.args.requests.now.target in
    let ws = c.args.requests.now.wanted.items in
    let classes : c.as_slice.result.now ≡ map (status_or_move s t) ws =
    c.as_slice.ensures.value ∙ c.in_ok-classes.ensures.classes
    ∙ ap (λ (l : Layout). map (class_shown l (λ pid v. look_in s.processes s.areas s.place s.pins pid v) (λ p. frame_and_pin s.place s.pins p) t) ws) c.geometry-geometry.ensures
    ∙ classes_by_view s t ws c.self.invariant.kept.sound.order.processes in
    let front : c.as_slice-2.result.now ≡ take (length c.as_slice.result.now) (free_list s t) =
    c.as_slice-2.ensures.value ∙ c.in_ok-front.ensures.front ∙ ap (λ n. take n (free_list s t)) (c.len.ensures ∙ sym c.as_slice.ensures.len) in
    let few : length c.as_slice.result.now ≤ length c.as_slice.result.now = omega arith in
    IfOk-weaker c.plan.result _ _ (λ plan h. subst (λ (x : State). IsPlanOf x t ws plan) c.self.view_is
    (is_plan_of s t ws plan c.self.invariant.kept.sound.order.processes (c.self.invariant.kept.sound.frames.own t) c.requires.alike
    (h ∙ planned_is s t (length c.as_slice.result.now) c.as_slice.result.now c.as_slice-2.result.now ws classes front few))) c.plan.ensures.plan

-- there are as many classes as requests
pub returns-in_err-front-clause-allocates : goal.returns-in_err-front-clause-allocates
returns-in_err-front-clause-allocates g c =
    let ws = c.args.requests.now.wanted.items in
    let many = ap length c.in_ok-classes.ensures.classes ∙ length-map ws _ in
    err_always c.from_residual-in_err-front.result (omega (arith, c.in_err-front.ensures.allocates, c.len.ensures, many))

pub returns-clause-allocates : goal.returns-clause-allocates
returns-clause-allocates g c =
    let ws = c.args.requests.now.wanted.items in
    subst (λ n. OnErr c.plan.result (0 < n)) (ap length c.as_slice.ensures.value ∙ ap length c.in_ok-classes.ensures.classes ∙ length-map ws _) c.plan.ensures.allocates
