use Rattle.std.proofs.Common.{◌≡◌, ℕ, List, [], min, length, vec_capacity, ap, sym, subst, ◌∙◌}
use Rattle.std.specs.List.{AllByRecursion}
use Rattle.nm_pool.specs.views.Populated.{IsPopulated}
use Rattle.nm_model.specs.definitions.Frames.{Pool}
use Rattle.nm_pool.specs.views.Frames.{FramesView, CanFree, pool_of, with_freed, all_freed, in_memory}
use Rattle.nm_pool.proofs.FreeLists.Freed.{lists_stay, sizes_stay}
use Rattle.nm_pool.proofs.Boxed.{seen, held}
use Rattle.nm_pool.proofs.frames.FramePool.free_vacated.Goals as goal

pub invariant_of-self : goal.invariant_of-self
invariant_of-self g c =
    let own = held c.self.inside.jobs c.deref_mut-parts.ensures.value c.self.invariant in
    let freed : c.free_frames.new.nodes ≡ with_freed c.deref_mut-parts.result.now.nodes c.deref_mut-parts.result.now.vacated.items = c.free_frames.ensures ∙ ap (λ frames. with_freed c.deref_mut-parts.result.now.nodes frames) c.as_slice.ensures.value in (
      ap (λ (p : Pool). p.sizes) freed ∙ sizes_stay c.deref_mut-parts.result.now.nodes c.deref_mut-parts.result.now.vacated.items ∙ own.0,
      record {
        lists = ap (λ (p : Pool). length p.lists) freed ∙ lists_stay c.deref_mut-parts.result.now.nodes c.deref_mut-parts.result.now.vacated.items ∙ own.1.lists;
        buffers = own.1.buffers;
        home = own.1.home;
      },
      own.2,
      subst (AllByRecursion (IsPopulated (in_memory c.deref_mut-parts.result.now.frames))) (sym c.clear.ensures.items) tt,
    )

pub free_frames-requires : goal.free_frames-requires
free_frames-requires g c =
    let own = held c.self.inside.jobs c.deref_mut-parts.ensures.value c.self.invariant in
    let shown = seen c.self.inside.jobs c.deref_mut-parts.ensures.value c.self.view_is in
    let k = c.deref_mut-parts.result.now in
    let can = subst (λ (v : FramesView). CanFree (pool_of v) v.vacated) (sym shown) c.requires in
    subst (CanFree k.nodes) (sym c.as_slice.ensures.value) (subst (λ (sizes : List ℕ). CanFree (record { sizes = sizes; lists = k.nodes.lists }) k.vacated.items) (sym own.0) can)

pub returns-clause-freed : goal.returns-clause-freed
returns-clause-freed g c =
    let own = held c.self.inside.jobs c.deref_mut-parts.ensures.value c.self.invariant in
    let shown = seen c.self.inside.jobs c.deref_mut-parts.ensures.value c.self.view_is in
    let k = c.deref_mut-parts.result.now in
    let fields : Pool → List ℕ → ℕ → FramesView = λ p vacated room. record { layout = k.geometry; frames = in_memory k.frames; free = p.lists; vacated = vacated; room = min room (vec_capacity c.self.inside.jobs) } in
    let freed : c.free_frames.new.nodes ≡ with_freed k.nodes k.vacated.items = c.free_frames.ensures ∙ ap (λ frames. with_freed k.nodes frames) c.as_slice.ensures.value in
    let sized = ap (λ (sizes : List ℕ). with_freed (record { sizes = sizes; lists = k.nodes.lists }) k.vacated.items) own.0 in
    let after : Pool = with_freed (record { sizes = k.geometry.sizes; lists = k.nodes.lists }) k.vacated.items in
    ap (λ p. fields p c.clear.new.self.items (vec_capacity c.clear.new.self)) (freed ∙ sized)
    ∙ ap (λ vacated. fields after vacated (vec_capacity c.clear.new.self)) c.clear.ensures.items
    ∙ ap (fields after []) c.clear.ensures.capacity
    ∙ ap all_freed shown
