use Rattle.std.proofs.Common.{◌≡◌, suc, ◌+◌, ap, ◌∙◌, arith}
use Rattle.std.specs.Ordering.{nat_cmp}
use Rattle.std.specs.BTreeSet.{insert_key}
use Rattle.nm_types.specs.Nodes.{up_from}
use Rattle.nm_engine.proofs.MidRun.AreaCalls.{insert_next}
use Rattle.nm_engine.proofs.machine.all_nodes.Goals as goal

pub loop-node-preserved : goal.loop-node-preserved
loop-node-preserved c =
    let next : suc c.loop-node.node ≡ c.loop-node.node + 1 = omega arith in
    c.insert.ensures ∙ ap (insert_key nat_cmp c.loop-node.nodes) c.new.ensures ∙ ap (λ ns. insert_key nat_cmp ns c.loop-node.node) c.loop-node.invariant ∙ insert_next c.loop-node.node 0 c.loop-node.node (omega arith) ∙ ap (up_from 0) next
