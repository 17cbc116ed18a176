use Rattle.std.proofs.Common.{ap, replicate, sym, subst, ◌∙◌}
use Rattle.std.specs.List.{AllByRecursion}
use Rattle.nm_pool.specs.views.Populated.{IsPopulated}
use Rattle.nm_model.specs.definitions.Frames.{Pool}
use Rattle.nm_pool.specs.declared.frames.FrameParts.{FrameParts}
use Rattle.nm_pool.specs.views.Frames.{HasAllFrames, in_memory}
use Rattle.nm_pool.proofs.Shelves.{new_shelf}
use Rattle.nm_pool.proofs.Boxed.{held, shown_with}
use Rattle.nm_pool.proofs.InMemory.{new_frames}
use Rattle.nm_pool.proofs.frames.FramePool.new.Goals as goal

pub invariant_of-result : goal.invariant_of-result
invariant_of-result g c = held c.new-4.result c.in_ok-parts.ensures.ok (
  ap (λ (p : Pool). p.sizes) c.in_ok-nodes.ensures,
  new_shelf c.args.geometry (in_memory c.in_ok-frames.frames) c.in_ok-nodes.nodes.lists c.new-2.result.items _ c.frame_count.result
      c.frame_count.ensures (ap in_memory c.in_ok-frames.ensures.ok ∙ new_frames c.frame_count.result (replicate 4096 0)) (ap (λ (p : Pool). p.lists) c.in_ok-nodes.ensures),
  c.new-4.ensures.items,
  subst (AllByRecursion (IsPopulated (in_memory c.in_ok-frames.frames))) (sym c.new-2.ensures.items) tt,
)

pub returns-clause-whole : goal.returns-clause-whole
returns-clause-whole g c =
    subst (λ (p : FrameParts g.row.A.Denot). HasAllFrames (shown_with p c.new-4.result)) (sym c.in_ok-parts.ensures.ok)
    (new_shelf c.args.geometry (in_memory c.in_ok-frames.frames) c.in_ok-nodes.nodes.lists c.new-2.result.items _ c.frame_count.result
    c.frame_count.ensures (ap in_memory c.in_ok-frames.ensures.ok ∙ new_frames c.frame_count.result (replicate 4096 0)) (ap (λ (p : Pool). p.lists) c.in_ok-nodes.ensures))

pub returns-clause-layout : goal.returns-clause-layout
returns-clause-layout g c = ap (λ (p : FrameParts g.row.A.Denot). p.geometry) c.in_ok-parts.ensures.ok

pub returns-clause-free : goal.returns-clause-free
returns-clause-free g c = ap (λ (p : FrameParts g.row.A.Denot). p.nodes.lists) c.in_ok-parts.ensures.ok ∙ ap (λ (p : Pool). p.lists) c.in_ok-nodes.ensures

pub returns-clause-vacated : goal.returns-clause-vacated
returns-clause-vacated g c = ap (λ (p : FrameParts g.row.A.Denot). p.vacated.items) c.in_ok-parts.ensures.ok ∙ c.new-2.ensures.items
