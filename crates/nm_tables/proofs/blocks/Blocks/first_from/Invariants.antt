use Rattle.std.proofs.Common.{◌≡◌, ℕ, ◌-◌, ◌/◌, ◌≤◌, ◌<◌, ◌^◌}
use Rattle.std.specs.Prelude.{None}
use Rattle.std.specs.Ordering.{nat_cmp}
use Rattle.nm_types.specs.Map.{get}
use Rattle.nm_tables.specs.views.Blocks.{block_entries}
use Rattle.nm_tables.proofs.blocks.Blocks.first_from.Given as goal

-- the blocks before have no entry
abbrev pub invariant-loop-block : goal.invariant-loop-block
invariant-loop-block g l =
    record {
      fits : l.from ≤ 2 ^ 55;
      before : (v : ℕ) → l.at ≤ v → v / 512 < l.from → get nat_cmp (block_entries l.self) v ≡ None;
    }

abbrev pub decreases-loop-block : goal.decreases-loop-block
decreases-loop-block g l = 2 ^ 55 - l.from
