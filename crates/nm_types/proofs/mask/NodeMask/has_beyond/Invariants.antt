use Rattle.std.proofs.Common.{◌≡◌, length}
use Rattle.std.specs.Prelude.{nat_le}
use Rattle.std.specs.List.{list_any}
use Rattle.nm_types.proofs.mask.NodeMask.has_beyond.Given as goal

abbrev pub decreases-loop-node : goal.decreases-loop-node
decreases-loop-node l = length l.rest

abbrev pub invariant-loop-node : goal.invariant-loop-node
invariant-loop-node l = list_any (nat_le l.count) l.rest ≡ list_any (nat_le l.count) l.fn.self
