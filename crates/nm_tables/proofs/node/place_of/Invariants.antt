use Rattle.std.proofs.Common.{◌≤◌, ◌<◌, ◌-◌, length, take, drop}
use Rattle.std.specs.List.{AllByRecursion}
use Rattle.std.specs.Map.{keys_of}
use Rattle.nm_tables.proofs.node.place_of.Given as goal

abbrev pub decreases-loop-low : goal.decreases-loop-low
decreases-loop-low g l = l.high - l.low

-- parts before the stretch that is left have lower numbers, and parts after it have higher ones
abbrev pub invariant-loop-low : goal.invariant-loop-low
invariant-loop-low g l =
    record {
      order : l.low ≤ l.high;
      within : l.high ≤ length l.parts;
      below : AllByRecursion (λ k. k < l.number) (keys_of (take l.low l.parts));
      above : AllByRecursion (λ k. l.number < k) (keys_of (drop l.high l.parts));
    }
