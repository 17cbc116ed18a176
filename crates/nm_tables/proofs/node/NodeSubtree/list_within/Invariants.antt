use Rattle.std.proofs.Common.{◌≡◌, ◌++◌, drop}
use Rattle.nm_tables.specs.definitions.Tree.{flatten}
use Rattle.nm_tables.specs.definitions.Nodes.{slots_shown, IsNode}
use Rattle.nm_tables.specs.views.Blocks.{entries_by, AreBlocks}
use Rattle.nm_tables.specs.definitions.Lists.{Extends}
use Rattle.nm_tables.proofs.Within.{within}
use Rattle.nm_tables.proofs.node.NodeSubtree.list_within.Given as goal

-- the entries of the parts from here on are left
abbrev pub invariant-loop-number : goal.invariant-loop-number
invariant-loop-number g l =
    let slots = g.T.Subtree.slots in
    let rest = drop l.number-index l.number-items in
    record {
      kept : IsNode g.T.Subtree.whole g.T.Subtree.is_in rest;
      named : AreBlocks l.leaves (flatten (slots_shown slots rest));
      left : l.list.items ++ within l.first l.last (entries_by l.leaves (flatten (slots_shown slots rest))) ≡ l.initial.list.items ++ within l.first l.last (entries_by l.leaves (flatten (slots_shown slots l.self.parts.items)));
      before : Extends l.initial.list.items l.list.items;
    }
