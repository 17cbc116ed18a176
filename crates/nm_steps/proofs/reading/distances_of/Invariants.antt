use Rattle.std.proofs.Common.{◌≡◌, ◌^◌, ◌<◌, true, drop}
use Rattle.nm_steps.specs.Lists.{items_seen}
use Rattle.nm_steps.specs.Form.{each, number_below}
use Rattle.nm_steps.specs.Memory.{starts}
use Rattle.nm_steps.proofs.Each.{with_front}
use Rattle.nm_steps.proofs.reading.distances_of.Given as goal

abbrev pub invariant-loop-value : goal.invariant-loop-value
invariant-loop-value g l = record {
  read : with_front l.row.items (each (number_below (2 ^ 8)) (items_seen g.V.JsonValue.as_data (drop l.value-index l.values))) ≡ each (number_below (2 ^ 8)) (items_seen g.V.JsonValue.as_data l.values);
  first : 0 < l.value-index → starts (number_below (2 ^ 8)) (items_seen g.V.JsonValue.as_data l.values) ≡ true;
}
