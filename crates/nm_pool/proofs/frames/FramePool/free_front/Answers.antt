use Rattle.std.proofs.Common.{◌<◌, min, take, length, ap, subst, ◌∙◌, arith}
use Rattle.std.specs.Prelude.{OnErr}
use Rattle.std.proofs.lemmas.List.{take_min}
use Rattle.std.proofs.lemmas.Result.{IfOk-weaker}
use Rattle.nm_model.specs.definitions.Frames.{list_of}
use Rattle.nm_pool.specs.views.Frames.{FramesView, free_on}
use Rattle.nm_pool.proofs.Shelves.{seen_node}
use Rattle.nm_pool.proofs.Boxed.{seen, held}
use Rattle.nm_pool.proofs.frames.FramePool.free_front.Goals as goal

pub front_in_place-requires-clause-node : goal.front_in_place-requires-clause-node
front_in_place-requires-clause-node g c = seen_node _ c.args.self.now c.args.node (seen c.self.inside.jobs c.deref-parts.ensures c.self.view_is) (held c.self.inside.jobs c.deref-parts.ensures c.self.invariant).1 c.requires

pub front_in_place-requires-clause-count : goal.front_in_place-requires-clause-count
front_in_place-requires-clause-count g c = omega (arith, c.min-count.ensures, c.free_count.ensures.count)

pub returns-clause-front : goal.returns-clause-front
returns-clause-front g c =
    let list = list_of c.deref-parts.result.now.nodes c.args.node in
    let many = c.min-count.ensures ∙ ap (λ n. min c.args.count n) c.free_count.ensures.count in
    let all = ap (λ n. take n list) many ∙ take_min c.args.count list ∙ ap (λ (v : FramesView). take c.args.count (free_on v c.args.node)) (seen c.self.inside.jobs c.deref-parts.ensures c.self.view_is) in
    IfOk-weaker c.front_in_place.result _ _ (λ frames front. front ∙ all) c.front_in_place.ensures.frames

pub returns-clause-allocates : goal.returns-clause-allocates
returns-clause-allocates g c =
    let many = c.min-count.ensures ∙ ap (λ n. min c.args.count n) c.free_count.ensures.count in
    subst (λ n. OnErr c.front_in_place.result (1 < n)) (many ∙ ap (λ (v : FramesView). min c.args.count (length (free_on v c.args.node))) (seen c.self.inside.jobs c.deref-parts.ensures c.self.view_is)) c.front_in_place.ensures.allocates
