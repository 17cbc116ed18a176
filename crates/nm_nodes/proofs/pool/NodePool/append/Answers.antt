use Rattle.std.proofs.Common.{sym, subst, ℕ, List, [], ◌∷◌, ◌++◌}
use Rattle.nm_model.specs.definitions.Frames.{IsPool}
use Rattle.nm_nodes.proofs.Pools.{own_row, own_written, IsPool-appended}
use Rattle.nm_nodes.proofs.pool.NodePool.append.Goals as goal

pub append-requires : goal.append-requires
append-requires g c = (own_row c.self.inside.lists.items c.args.self.now c.args.frame c.owner_of-node.result c.index_mut.result.now c.self.view_is c.self.invariant c.owner_of-node.ensures.node c.as_slice.ensures.value c.index_mut.ensures.value c.requires.frame c.requires.taken).room

pub returns : goal.returns
returns g c =
    let own = own_row c.self.inside.lists.items c.args.self.now c.args.frame c.owner_of-node.result c.index_mut.result.now c.self.view_is c.self.invariant c.owner_of-node.ensures.node c.as_slice.ensures.value c.index_mut.ensures.value c.requires.frame c.requires.taken in
    own_written c.self.inside.lists.items c.args.self.now c.args.frame c.owner_of-node.result c.index_mut.result.now c.self.view_is own c.index_mut.ensures.value c.append.new.self (λ (ns : List ℕ). ns ++ c.args.frame ∷ []) c.append.ensures

pub invariant_of-self : goal.invariant_of-self
invariant_of-self g c =
    subst IsPool (sym (returns g c)) (IsPool-appended c.args.self.now c.args.frame (subst IsPool c.self.view_is c.self.invariant) c.requires.frame c.requires.taken)
