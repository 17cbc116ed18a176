use Rattle.std.proofs.Common.{ap, sym, ◌∙◌, subst, ℕ, ◌<◌, List, drop}
use Rattle.std.specs.Prelude.{slice_get}
use Rattle.nm_model.specs.definitions.Frames.{IsPool, list_of}
use Rattle.nm_nodes.proofs.Pools.{place_in, row_list, written, IsPool-without_front}
use Rattle.nm_nodes.proofs.pool.NodePool.take_front.Goals as goal

pub returns-clause-rest : goal.returns-clause-rest
returns-clause-rest g c =
    let row = c.index_mut.result.now in
    let old = row_list c.self.inside.lists.items c.args.self.now c.index.result c.args.node row c.self.view_is c.index.ensures c.requires c.index_mut.ensures.value in
    written c.self.inside.lists.items c.args.self.now c.index.result c.args.node row c.self.view_is c.index.ensures c.requires c.index_mut.ensures.value
    c.take_front.new.self (drop 1 (list_of c.args.self.now c.args.node)) (c.take_front.ensures.rest ∙ ap (λ (ns : List ℕ). (row.0, drop 1 ns)) old)

pub invariant_of-self : goal.invariant_of-self
invariant_of-self g c =
    subst IsPool (sym (returns-clause-rest g c)) (IsPool-without_front c.args.self.now c.args.node (subst IsPool c.self.view_is c.self.invariant) c.requires)

pub index_mut-requires : goal.index_mut-requires
index_mut-requires g c =
    let within = place_in c.self.inside.lists.items c.args.self.now c.index.result c.args.node c.self.view_is c.index.ensures c.requires in
    subst (λ (n : ℕ). c.index.result < n) (sym c.self.inside.lists.ok.0) within

pub returns-clause-front : goal.returns-clause-front
returns-clause-front g c =
    let old = row_list c.self.inside.lists.items c.args.self.now c.index.result c.args.node c.index_mut.result.now c.self.view_is c.index.ensures c.requires c.index_mut.ensures.value in
    c.take_front.ensures.front ∙ ap (λ (ns : List ℕ). slice_get ns 0) old
