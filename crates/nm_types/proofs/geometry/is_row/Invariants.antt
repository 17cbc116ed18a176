use Rattle.std.proofs.Common.{◌≡◌, drop}
use Rattle.nm_types.specs.Layout.{are_distances}
use Rattle.nm_types.proofs.geometry.is_row.Given as goal

abbrev pub invariant-loop-to : goal.invariant-loop-to
invariant-loop-to l = are_distances l.own l.to (drop l.to l.row) ≡ are_distances l.own 0 l.row
