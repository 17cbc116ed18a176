use Rattle.std.proofs.Common.{ℕ, List, ◌<◌, length, sym, ap, subst, ◌∙◌, arith}
use Rattle.std.specs.Prelude.{All, ◌==◌}
use Rattle.std.specs.List.{filter}
use Rattle.std.specs.Map.{keys_of}
use Rattle.nm_types.specs.declared.page.Page.{Page}
use Rattle.nm_types.specs.Map.{Map}
use Rattle.nm_types.specs.State.{State}
use Rattle.nm_types.specs.Layout.{Layout, frame_count, node_of}
use Rattle.nm_model.specs.definitions.Areas.{Mapping}
use Rattle.nm_model.specs.definitions.Seen.{placed_on}
use Rattle.nm_engine.specs.views.Shown.{shown_by}
use Rattle.nm_laws.proofs.Soundness.Placed.{places_below, placed_few}
use Rattle.nm_engine.proofs.machine.Machine.pages_on.Goals as goal

pub pages_among-requires : goal.pages_among-requires
pages_among-requires g c =
    let i = c.self.inside in
    let s = shown_by i.spaces i.frames i.online i.totals.moved i.totals.failed in
    subst (λ (m : Map Page ℕ). All (λ (e : Page × ℕ). e.1 < frame_count c.geometry-geometry.result.now) m) (sym (c.as_slice.ensures.value ∙ c.in_ok-placed.ensures.placed ∙ ap (λ (m : Mapping). m.place) c.areas.ensures.areas))
    (subst (λ (g : Layout). All (λ (e : Page × ℕ). e.1 < frame_count g) s.place) (sym c.geometry-geometry.ensures)
    (places_below s i.frames.vacated c.self.invariant.kept.sound.frames))

pub returns-clause-list : goal.returns-clause-list
returns-clause-list g c =
    let i = c.self.inside in
    let s = shown_by i.spaces i.frames i.online i.totals.moved i.totals.failed in
    let on : Layout → Map Page ℕ → List Page = λ g m. keys_of (filter (λ (e : Page × ℕ). node_of g e.1 == c.args.node) m) in
    c.in_ok-pages.ensures.pages ∙ ap (on c.geometry-geometry.result.now) (c.as_slice.ensures.value ∙ c.in_ok-placed.ensures.placed ∙ ap (λ (m : Mapping). m.place) c.areas.ensures.areas)
    ∙ ap (λ g. on g s.place) c.geometry-geometry.ensures ∙ ap (λ (s : State). placed_on s c.args.node) c.self.view_is

pub returns-clause-few : goal.returns-clause-few
returns-clause-few g c =
    let i = c.self.inside in
    let s = shown_by i.spaces i.frames i.online i.totals.moved i.totals.failed in
    let list = returns-clause-list g c ∙ sym (ap (λ (s : State). placed_on s c.args.node) c.self.view_is) in
    let few = placed_few s i.frames.vacated c.self.invariant.kept.sound.frames c.args.node in
    let frames = ap frame_count c.geometry-geometry.ensures in
    let most = c.node_count.ensures.machine.few_frames in
    omega (arith, ap length list, few, frames, most)
