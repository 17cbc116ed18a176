use Rattle.std.proofs.Common.{sym, subst, ℕ, List, ◌∷◌}
use Rattle.nm_model.specs.definitions.Frames.{IsPool}
use Rattle.nm_nodes.proofs.Pools.{own_row, own_written, IsPool-prepended}
use Rattle.nm_nodes.proofs.pool.NodePool.prepend.Goals as goal

pub prepend-requires : goal.prepend-requires
prepend-requires g c = (own_row c.self.inside.lists.items c.args.self.now c.args.frame c.owner_of-node.result c.index_mut.result.now c.self.view_is c.self.invariant c.owner_of-node.ensures.node c.as_slice.ensures.value c.index_mut.ensures.value c.requires.frame c.requires.taken).room

pub returns : goal.returns
returns g c =
    let own = own_row c.self.inside.lists.items c.args.self.now c.args.frame c.owner_of-node.result c.index_mut.result.now c.self.view_is c.self.invariant c.owner_of-node.ensures.node c.as_slice.ensures.value c.index_mut.ensures.value c.requires.frame c.requires.taken in
    own_written c.self.inside.lists.items c.args.self.now c.args.frame c.owner_of-node.result c.index_mut.result.now c.self.view_is own c.index_mut.ensures.value c.prepend.new.self (λ (ns : List ℕ). c.args.frame ∷ ns) c.prepend.ensures

pub invariant_of-self : goal.invariant_of-self
invariant_of-self g c =
    subst IsPool (sym (returns g c)) (IsPool-prepended c.args.self.now c.args.frame (subst IsPool c.self.view_is c.self.invariant) c.requires.frame c.requires.taken)
