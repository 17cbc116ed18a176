use Rattle.std.proofs.Common.{◌≡◌, ◌<◌, true, drop, map}
use Rattle.nm_steps.specs.Lists.{items_seen}
use Rattle.nm_steps.specs.Form.{each, row_of}
use Rattle.nm_steps.specs.Memory.{begins, row_allocates}
use Rattle.nm_steps.proofs.Each.{with_front}
use Rattle.nm_steps.proofs.reading.rows_of.Given as goal

abbrev pub invariant-loop-value : goal.invariant-loop-value
invariant-loop-value g l = record {
  read : with_front (map (λ row. row.items) l.rows.items) (each row_of (items_seen g.V.JsonValue.as_data (drop l.value-index l.values))) ≡ each row_of (items_seen g.V.JsonValue.as_data l.values);
  first : 0 < l.value-index → begins row_allocates (items_seen g.V.JsonValue.as_data l.values) ≡ true;
}
