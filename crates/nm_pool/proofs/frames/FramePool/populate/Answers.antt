use Rattle.std.proofs.Common.{subst, ap}
use Rattle.nm_pool.specs.views.Frames.{FramesView, KeepsBytes, in_memory}
use Rattle.nm_pool.proofs.Shelves.{seen_below, every_home, store_kept}
use Rattle.nm_pool.proofs.Copies.Populated.{keeps_all}
use Rattle.nm_pool.proofs.Boxed.{seen, held}
use Rattle.nm_pool.proofs.frames.FramePool.populate.Goals as goal

pub populate-requires-clause-frame : goal.populate-requires-clause-frame
populate-requires-clause-frame g c =
    let own = held c.self.inside.jobs c.deref_mut-parts.ensures.value c.self.invariant in
    let shown = seen c.self.inside.jobs c.deref_mut-parts.ensures.value c.self.view_is in
    seen_below _ c.args.self.now c.args.frame shown own.1 c.requires

pub populate-requires-clause-home : goal.populate-requires-clause-home
populate-requires-clause-home g c = every_home _ (held c.self.inside.jobs c.deref_mut-parts.ensures.value c.self.invariant).1

pub invariant_of-self : goal.invariant_of-self
invariant_of-self g c =
    let own = held c.self.inside.jobs c.deref_mut-parts.ensures.value c.self.invariant in
    let kept = c.populate.ensures.kept in
    (own.0, store_kept _ (in_memory c.populate.new.frames) kept own.1, own.2, keeps_all c.deref_mut-parts.result.now.vacated.items (in_memory c.deref_mut-parts.result.now.frames) (in_memory c.populate.new.frames) kept own.3)

pub returns-clause-kept : goal.returns-clause-kept
returns-clause-kept g c = subst (λ (v : FramesView). KeepsBytes v.frames (in_memory c.populate.new.frames)) (seen c.self.inside.jobs c.deref_mut-parts.ensures.value c.self.view_is) c.populate.ensures.kept

pub returns-clause-same : goal.returns-clause-same
returns-clause-same g c = ap (λ (v : FramesView). record v { frames = in_memory c.populate.new.frames }) (seen c.self.inside.jobs c.deref_mut-parts.ensures.value c.self.view_is)

pub returns-clause-whole : goal.returns-clause-whole
returns-clause-whole g c = store_kept _ (in_memory c.populate.new.frames) c.populate.ensures.kept (held c.self.inside.jobs c.deref_mut-parts.ensures.value c.self.invariant).1
