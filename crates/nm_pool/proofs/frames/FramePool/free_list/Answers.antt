use Rattle.std.proofs.Common.{length, ap, ◌∙◌, arith}
use Rattle.std.proofs.lemmas.List.{take_all}
use Rattle.std.proofs.lemmas.Result.{IfOk-weaker, on_err_weaker}
use Rattle.nm_model.specs.definitions.Frames.{list_of}
use Rattle.nm_pool.specs.views.Frames.{FramesView, free_on}
use Rattle.nm_pool.proofs.Shelves.{seen_node}
use Rattle.nm_pool.proofs.Boxed.{seen, held}
use Rattle.nm_pool.proofs.frames.FramePool.free_list.Goals as goal

pub front_of-requires-clause-node : goal.front_of-requires-clause-node
front_of-requires-clause-node g c = seen_node _ c.args.self.now c.args.node (seen c.self.inside.jobs c.deref-parts.ensures c.self.view_is) (held c.self.inside.jobs c.deref-parts.ensures c.self.invariant).1 c.requires

pub front_of-requires-clause-count : goal.front_of-requires-clause-count
front_of-requires-clause-count g c = omega (arith, c.free_count.ensures.count)

pub returns-clause-frames : goal.returns-clause-frames
returns-clause-frames g c =
    let list = list_of c.deref-parts.result.now.nodes c.args.node in
    let all = take_all c.free_count.result list (omega (arith, c.free_count.ensures.count)) ∙ ap (λ (v : FramesView). free_on v c.args.node) (seen c.self.inside.jobs c.deref-parts.ensures c.self.view_is) in
    IfOk-weaker c.front_of.result _ _ (λ frames front. front ∙ all) c.front_of.ensures.frames

pub returns-clause-allocates : goal.returns-clause-allocates
returns-clause-allocates g c =
    let same = ap (λ (v : FramesView). length (free_on v c.args.node)) (seen c.self.inside.jobs c.deref-parts.ensures c.self.view_is) in
    on_err_weaker c.front_of.result (λ some. omega (arith, some, same, c.free_count.ensures.count)) c.front_of.ensures.allocates
