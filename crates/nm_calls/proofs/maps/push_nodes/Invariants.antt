use Rattle.std.proofs.Common.{◌≡◌, ◌++◌, string_bytes}
use Rattle.nm_calls.specs.views.Tally.{nodes_text}
use Rattle.nm_calls.proofs.maps.push_nodes.Given as goal

abbrev pub invariant-loop-node : goal.invariant-loop-node
invariant-loop-node g l = string_bytes l.line ≡ string_bytes l.fn.line ++ nodes_text l.on l.node
