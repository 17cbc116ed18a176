use Rattle.std.proofs.Common.{◌≡◌, ◌+◌, ◌-◌, ap, ℕ, List, drop, sum, arith}
use Rattle.std.proofs.lemmas.List.{drop_all}
use Rattle.nm_types.specs.Layout.{owner}
use Rattle.nm_nodes.specs.Lists.{sizes_of}
use Rattle.nm_nodes.proofs.Pools.{owner_here, owner_beyond, sum_parted}
use Rattle.nm_nodes.proofs.pool.owner_of.Goals as goal

pub returns-then-rest-size-clause-node : goal.returns-then-rest-size-clause-node
returns-then-rest-size-clause-node g c =
    let here = owner_here c.args.lists.now c.loop-node.node c.loop-node.rest c.index-lists-node.result c.loop-node-test.true c.index-lists-node.is (omega arith) in
    omega (arith, here, c.loop-node.invariant.owned)

pub loop-node-preserved : goal.loop-node-preserved
loop-node-preserved g c =
    let beyond = owner_beyond c.args.lists.now c.loop-node.node c.loop-node.rest c.index-lists-node.result c.loop-node-test.true c.index-lists-node.is (omega arith) in
    let parted = sum_parted c.args.lists.now c.loop-node.node c.loop-node.rest c.index-lists-node.result c.loop-node-test.true c.index-lists-node.is in
    let same : c.loop-node.rest - c.index-lists-node.result.0 ≡ c.loop-node.rest - c.size-rest.result = omega arith in
    let next = ap (owner (sizes_of (drop (c.loop-node.node + 1) c.args.lists.now))) same in
    record { owned = omega (arith, beyond, next, c.loop-node.invariant.owned); later = omega (arith, parted, c.loop-node.invariant.later) }

pub unreachable-requires : goal.unreachable-requires
unreachable-requires g c =
    let none = ap (λ (rows : List (ℕ × List ℕ)). sum (sizes_of rows)) (drop_all c.loop-node.node c.args.lists.now c.loop-node-test.false) in
    omega (arith, none, c.loop-node.invariant.later)
