use Rattle.std.proofs.Common.{◌≡◌, ◌≤◌, ℕ, drop}
use Rattle.std.specs.Ordering.{nat_cmp}
use Rattle.nm_types.specs.Map.{get}
use Rattle.nm_tables.specs.definitions.Tree.{flatten}
use Rattle.nm_tables.specs.definitions.Nodes.{slots_shown, IsNode}
use Rattle.nm_tables.proofs.node.NodeSubtree.first_from.Given as goal

-- what is at the number or past it is in the parts that are left
abbrev pub invariant-loop-part : goal.invariant-loop-part
invariant-loop-part g l =
    record {
      kept : IsNode g.T.Subtree.whole g.T.Subtree.is_in (drop l.part-index l.part-items);
      same : (v : ℕ) → l.at ≤ v → get nat_cmp (flatten (slots_shown g.T.Subtree.slots l.self.parts.items)) v ≡ get nat_cmp (flatten (slots_shown g.T.Subtree.slots (drop l.part-index l.part-items))) v;
    }
