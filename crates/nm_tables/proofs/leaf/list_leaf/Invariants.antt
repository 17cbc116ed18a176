use Rattle.std.proofs.Common.{◌≡◌, ◌≤◌, ◌+◌, ◌-◌, ◌*◌, ◌++◌}
use Rattle.nm_tables.specs.views.Leaves.{leaf_entries}
use Rattle.nm_tables.specs.definitions.Lists.{Extends}
use Rattle.nm_tables.proofs.Within.{within}
use Rattle.nm_tables.proofs.leaf.list_leaf.Given as goal

-- the entries from this place on are left
abbrev pub invariant-loop-place : goal.invariant-loop-place
invariant-loop-place g l =
    record {
      fits : l.from ≤ 512;
      left : l.list.items ++ within (l.leaf.block * 512 + l.from) l.last (leaf_entries l.leaf) ≡ l.initial.list.items ++ within l.fn.first l.last (leaf_entries l.leaf);
      before : Extends l.initial.list.items l.list.items;
    }

abbrev pub decreases-loop-place : goal.decreases-loop-place
decreases-loop-place g l = 512 - l.from
