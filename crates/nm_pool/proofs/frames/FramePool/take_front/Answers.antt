use Rattle.std.proofs.Common.{ap, subst, ◌∙◌}
use Rattle.nm_model.specs.definitions.Frames.{Pool}
use Rattle.nm_pool.specs.views.Frames.{HasAllFrames}
use Rattle.nm_pool.proofs.Shelves.{seen_node, list_set}
use Rattle.nm_pool.proofs.Boxed.{seen, held}
use Rattle.nm_pool.proofs.frames.FramePool.take_front.Goals as goal

pub take_front-requires : goal.take_front-requires
take_front-requires g c =
    let own = held c.self.inside.jobs c.deref_mut-parts.ensures.value c.self.invariant in
    let shown = seen c.self.inside.jobs c.deref_mut-parts.ensures.value c.self.view_is in
    seen_node _ c.args.self.now c.args.node shown own.1 c.requires

pub invariant_of-self : goal.invariant_of-self
invariant_of-self g c =
    let own = held c.self.inside.jobs c.deref_mut-parts.ensures.value c.self.invariant in (
      ap (λ (p : Pool). p.sizes) c.take_front.ensures.rest ∙ own.0,
      list_set _ c.deref_mut-parts.result.now.nodes c.take_front.new.self c.args.node _ _ _ c.take_front.ensures.rest own.1.lists own.1,
      own.2,
      own.3,
    )

pub returns-clause-whole : goal.returns-clause-whole
returns-clause-whole g c = subst HasAllFrames c.self.view_is c.self.invariant.1
