use Rattle.std.proofs.Common.{ℕ, List, ap, sym, subst, ◌∙◌}
use Rattle.std.specs.List.{AllByRecursion}
use Rattle.nm_pool.specs.views.Populated.{IsPopulated}
use Rattle.nm_model.specs.definitions.Frames.{Pool}
use Rattle.nm_model.specs.definitions.BeforeCopy.{frames_taken}
use Rattle.nm_pool.specs.views.Frames.{FramesView, HasAllFrames, CanReturn, pool_of, in_memory}
use Rattle.nm_pool.proofs.Shelves.{seen_node, list_set}
use Rattle.nm_pool.proofs.Boxed.{seen, held}
use Rattle.nm_pool.proofs.frames.FramePool.give_back.Goals as goal

pub return_tos-requires-clause-can : goal.return_tos-requires-clause-can
return_tos-requires-clause-can g c =
    let own = held c.self.inside.jobs c.deref_mut-parts.ensures.value c.self.invariant in
    let shown = seen c.self.inside.jobs c.deref_mut-parts.ensures.value c.self.view_is in
    let back = subst (λ (k : FramesView). CanReturn (pool_of k) c.args.node (frames_taken c.args.moves.now)) (sym shown) c.requires.can in
    subst (λ (sizes : List ℕ). CanReturn (record { sizes = sizes; lists = c.deref_mut-parts.result.now.nodes.lists }) c.args.node (frames_taken c.args.moves.now)) (sym own.0) back

pub return_tos-requires-clause-node : goal.return_tos-requires-clause-node
return_tos-requires-clause-node g c =
    let own = held c.self.inside.jobs c.deref_mut-parts.ensures.value c.self.invariant in
    let shown = seen c.self.inside.jobs c.deref_mut-parts.ensures.value c.self.view_is in
    seen_node _ c.args.self.now c.args.node shown own.1 c.requires.node

pub invariant_of-self : goal.invariant_of-self
invariant_of-self g c =
    let own = held c.self.inside.jobs c.deref_mut-parts.ensures.value c.self.invariant in (
      ap (λ (p : Pool). p.sizes) c.return_tos.ensures ∙ own.0,
      list_set _ c.deref_mut-parts.result.now.nodes c.return_tos.new.nodes c.args.node _ _ _ c.return_tos.ensures own.1.lists own.1,
      own.2,
      subst (AllByRecursion (IsPopulated (in_memory c.deref_mut-parts.result.now.frames))) (sym c.clear.ensures.items) tt,
    )

pub returns-clause-whole : goal.returns-clause-whole
returns-clause-whole g c = subst HasAllFrames c.self.view_is c.self.invariant.1
