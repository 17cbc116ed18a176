use Rattle.std.proofs.Common.{◌≡◌, map, drop}
use Rattle.nm_types.specs.Layout.{are_rows}
use Rattle.nm_types.proofs.geometry.are_rows.Given as goal

abbrev pub invariant-loop-own : goal.invariant-loop-own
invariant-loop-own g l = are_rows l.count l.own (map (λ row. row.items) (drop l.own l.rows)) ≡ are_rows l.count 0 (map (λ row. row.items) l.rows)
