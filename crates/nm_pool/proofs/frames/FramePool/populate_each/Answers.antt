use Rattle.std.proofs.Common.{subst, ap}
use Rattle.std.specs.Prelude.{OnErr}
use Rattle.std.specs.List.{AllByRecursion}
use Rattle.nm_pool.specs.views.Populated.{IsPopulated}
use Rattle.nm_model.specs.definitions.BeforeCopy.{frames_taken}
use Rattle.nm_pool.specs.views.Frames.{FramesView, KeepsBytes, in_memory}
use Rattle.nm_pool.proofs.Shelves.{all_below, every_home, store_kept}
use Rattle.nm_pool.proofs.Copies.Populated.{keeps_all}
use Rattle.nm_pool.proofs.Boxed.{seen, held}
use Rattle.nm_pool.proofs.frames.FramePool.populate_each.Goals as goal

pub populate_each-requires-clause-frames : goal.populate_each-requires-clause-frames
populate_each-requires-clause-frames g c =
    let own = held c.self.inside.jobs c.deref_mut-parts.ensures.value c.self.invariant in
    let shown = seen c.self.inside.jobs c.deref_mut-parts.ensures.value c.self.view_is in
    all_below (frames_taken c.args.moves.now) _ c.args.self.now shown own.1 c.requires

pub populate_each-requires-clause-home : goal.populate_each-requires-clause-home
populate_each-requires-clause-home g c = every_home _ (held c.self.inside.jobs c.deref_mut-parts.ensures.value c.self.invariant).1

pub invariant_of-self : goal.invariant_of-self
invariant_of-self g c =
    let own = held c.self.inside.jobs c.deref_mut-parts.ensures.value c.self.invariant in
    let kept = c.populate_each.ensures.kept in
    (own.0, store_kept _ (in_memory c.populate_each.new.frames) kept own.1, own.2, keeps_all c.deref_mut-parts.result.now.vacated.items (in_memory c.deref_mut-parts.result.now.frames) (in_memory c.populate_each.new.frames) kept own.3)

pub returns-clause-kept : goal.returns-clause-kept
returns-clause-kept g c = subst (λ (v : FramesView). KeepsBytes v.frames (in_memory c.populate_each.new.frames)) (seen c.self.inside.jobs c.deref_mut-parts.ensures.value c.self.view_is) c.populate_each.ensures.kept

pub returns-clause-same : goal.returns-clause-same
returns-clause-same g c = ap (λ (v : FramesView). record v { frames = in_memory c.populate_each.new.frames }) (seen c.self.inside.jobs c.deref_mut-parts.ensures.value c.self.view_is)

pub returns-clause-whole : goal.returns-clause-whole
returns-clause-whole g c = store_kept _ (in_memory c.populate_each.new.frames) c.populate_each.ensures.kept (held c.self.inside.jobs c.deref_mut-parts.ensures.value c.self.invariant).1

pub returns-clause-absent : goal.returns-clause-absent
returns-clause-absent g c =
    subst (λ (v : FramesView). OnErr c.populate_each.result (AllByRecursion (IsPopulated v.frames) (frames_taken c.args.moves.now) → ⊥)) (seen c.self.inside.jobs c.deref_mut-parts.ensures.value c.self.view_is) c.populate_each.ensures.absent
