use Rattle.std.proofs.Common.{◌++◌, ap, sym, ◌∙◌, append_assoc, string_bytes, slice_index_or}
use Rattle.nm_calls.specs.views.Tally.{node_count_text, nodes_text}
use Rattle.nm_calls.proofs.Lines.ConsecutiveNodes.{flat_map_up}
use Rattle.nm_calls.proofs.maps.push_nodes.Goals as goal

pub loop-node-preserved : goal.loop-node-preserved
loop-node-preserved g c =
    let text = node_count_text c.loop-node.node (slice_index_or c.args.on.now c.loop-node.node 0) in
    c.in_ok-push_node.ensures.text
    ∙ ap (λ t. t ++ text) c.loop-node.invariant
    ∙ append_assoc (string_bytes c.args.line.now) (nodes_text c.args.on.now c.loop-node.node) text
    ∙ ap (λ t. string_bytes c.args.line.now ++ t) (sym (flat_map_up (λ node. node_count_text node (slice_index_or c.args.on.now node 0)) c.loop-node.node))
