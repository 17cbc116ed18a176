use Rattle.std.proofs.Common.{ap, [], ◌∷◌, ◌∙◌}
use Rattle.nm_types.specs.Layout.{owner}
use Rattle.nm_model.specs.definitions.Frames.{Pool, with_back}
use Rattle.nm_pool.proofs.Shelves.{list_set, free_changed, can_free}
use Rattle.nm_pool.proofs.Boxed.{seen, held}
use Rattle.nm_pool.proofs.frames.FramePool.free.Goals as goal

pub append-requires-clause-frame : goal.append-requires-clause-frame
append-requires-clause-frame g c =
    let own = held c.self.inside.jobs c.deref_mut-parts.ensures.value c.self.invariant in
    let shown = seen c.self.inside.jobs c.deref_mut-parts.ensures.value c.self.view_is in
    (can_free _ c.args.self.now c.deref_mut-parts.result.now.nodes.sizes (c.args.frame ∷ []) shown own.0 c.requires).0

pub append-requires-clause-taken : goal.append-requires-clause-taken
append-requires-clause-taken g c =
    let own = held c.self.inside.jobs c.deref_mut-parts.ensures.value c.self.invariant in
    let shown = seen c.self.inside.jobs c.deref_mut-parts.ensures.value c.self.view_is in
    (can_free _ c.args.self.now c.deref_mut-parts.result.now.nodes.sizes (c.args.frame ∷ []) shown own.0 c.requires).1

pub invariant_of-self : goal.invariant_of-self
invariant_of-self g c =
    let own = held c.self.inside.jobs c.deref_mut-parts.ensures.value c.self.invariant in (
      ap (λ (p : Pool). p.sizes) c.append.ensures ∙ own.0,
      list_set _ c.deref_mut-parts.result.now.nodes c.append.new.self (owner c.deref_mut-parts.result.now.nodes.sizes c.args.frame) _ _ _ c.append.ensures own.1.lists own.1,
      own.2,
      own.3,
    )

pub returns : goal.returns
returns g c =
    let own = held c.self.inside.jobs c.deref_mut-parts.ensures.value c.self.invariant in
    let shown = seen c.self.inside.jobs c.deref_mut-parts.ensures.value c.self.view_is in
    free_changed (λ (p : Pool). with_back p c.args.frame) _ c.args.self.now c.deref_mut-parts.result.now.nodes.sizes c.append.new.self shown own.0 c.append.ensures
