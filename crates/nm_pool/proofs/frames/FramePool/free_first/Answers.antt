use Rattle.std.proofs.Common.{ap, [], ◌∷◌, ◌∙◌}
use Rattle.nm_types.specs.Layout.{owner}
use Rattle.nm_model.specs.definitions.Frames.{Pool, with_front}
use Rattle.nm_pool.proofs.Shelves.{list_set, free_changed, can_free}
use Rattle.nm_pool.proofs.Boxed.{seen, held}
use Rattle.nm_pool.proofs.frames.FramePool.free_first.Goals as goal

pub prepend-requires-clause-frame : goal.prepend-requires-clause-frame
prepend-requires-clause-frame g c =
    let own = held c.self.inside.jobs c.deref_mut-parts.ensures.value c.self.invariant in
    let shown = seen c.self.inside.jobs c.deref_mut-parts.ensures.value c.self.view_is in
    (can_free _ c.args.self.now c.deref_mut-parts.result.now.nodes.sizes (c.args.frame ∷ []) shown own.0 c.requires).0

pub prepend-requires-clause-taken : goal.prepend-requires-clause-taken
prepend-requires-clause-taken g c =
    let own = held c.self.inside.jobs c.deref_mut-parts.ensures.value c.self.invariant in
    let shown = seen c.self.inside.jobs c.deref_mut-parts.ensures.value c.self.view_is in
    (can_free _ c.args.self.now c.deref_mut-parts.result.now.nodes.sizes (c.args.frame ∷ []) shown own.0 c.requires).1

pub invariant_of-self : goal.invariant_of-self
invariant_of-self g c =
    let own = held c.self.inside.jobs c.deref_mut-parts.ensures.value c.self.invariant in (
      ap (λ (p : Pool). p.sizes) c.prepend.ensures ∙ own.0,
      list_set _ c.deref_mut-parts.result.now.nodes c.prepend.new.self (owner c.deref_mut-parts.result.now.nodes.sizes c.args.frame) _ _ _ c.prepend.ensures own.1.lists own.1,
      own.2,
      own.3,
    )

pub returns : goal.returns
returns g c =
    let own = held c.self.inside.jobs c.deref_mut-parts.ensures.value c.self.invariant in
    let shown = seen c.self.inside.jobs c.deref_mut-parts.ensures.value c.self.view_is in
    free_changed (λ (p : Pool). with_front p c.args.frame) _ c.args.self.now c.deref_mut-parts.result.now.nodes.sizes c.prepend.new.self shown own.0 c.prepend.ensures
