use Rattle.std.proofs.Common.{ap, sym, ◌∙◌, subst, ℕ, ◌<◌, List, ◌++◌, take, drop}
use Rattle.nm_model.specs.definitions.Frames.{IsPool, list_of}
use Rattle.nm_nodes.proofs.Pools.{place_in, row_list, written, IsPool-without_fronts}
use Rattle.nm_nodes.proofs.pool.NodePool.take_many.Goals as goal

pub returns-clause-rest : goal.returns-clause-rest
returns-clause-rest g c =
    let row = c.index_mut.result.now in
    let node = c.requires.node in
    let old = row_list c.self.inside.lists.items c.args.self.now c.index.result c.args.node row c.self.view_is c.index.ensures node c.index_mut.ensures.value in
    written c.self.inside.lists.items c.args.self.now c.index.result c.args.node row c.self.view_is c.index.ensures node c.index_mut.ensures.value
    c.take_many.new.self (drop c.args.count (list_of c.args.self.now c.args.node)) (c.take_many.ensures.rest ∙ ap (λ (ns : List ℕ). (row.0, drop c.args.count ns)) old)

pub invariant_of-self : goal.invariant_of-self
invariant_of-self g c =
    subst IsPool (sym (returns-clause-rest g c)) (IsPool-without_fronts c.args.self.now c.args.node c.args.count (subst IsPool c.self.view_is c.self.invariant) c.requires.node)

pub index_mut-requires : goal.index_mut-requires
index_mut-requires g c =
    let within = place_in c.self.inside.lists.items c.args.self.now c.index.result c.args.node c.self.view_is c.index.ensures c.requires.node in
    subst (λ (n : ℕ). c.index.result < n) (sym c.self.inside.lists.ok.0) within

pub take_many-requires : goal.take_many-requires
take_many-requires g c = c.requires.room

pub returns-clause-taken : goal.returns-clause-taken
returns-clause-taken g c =
    let old = row_list c.self.inside.lists.items c.args.self.now c.index.result c.args.node c.index_mut.result.now c.self.view_is c.index.ensures c.requires.node c.index_mut.ensures.value in
    c.take_many.ensures.taken ∙ ap (λ (ns : List ℕ). c.args.taken.now.items ++ take c.args.count ns) old

pub returns-clause-room : goal.returns-clause-room
returns-clause-room g c = c.take_many.ensures.room
