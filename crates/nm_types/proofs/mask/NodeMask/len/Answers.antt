use Rattle.std.proofs.Common.{◌≤◌, ℕ, List, length, subst, arith, rules}
use Rattle.nm_types.specs.Nodes.{IsNodeSet}
use Rattle.nm_types.proofs.Lowest.{IsNodeSet-members, length-members}
use Rattle.nm_types.proofs.mask.NodeMask.len.Goals as goal

pub overflow_add-count : goal.overflow_add-count
overflow_add-count c =
    let few : length c.args.self ≤ 64 = subst (λ (ns : List ℕ). length ns ≤ 64) c.self.view_is (length-members c.self.inside.bits) in
    omega (arith, c.loop-rest.invariant)

pub returns-clause-nodes : goal.returns-clause-nodes
returns-clause-nodes c = subst IsNodeSet c.self.view_is (IsNodeSet-members c.self.inside.bits)

pub loop-rest-init : goal.loop-rest-init
loop-rest-init c = search rules
