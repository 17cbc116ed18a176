use Rattle.std.proofs.Common.{◌≡◌, ◌<◌, true, drop}
use Rattle.nm_steps.specs.Lists.{items_seen}
use Rattle.nm_requests.specs.Views.{shown_during}
use Rattle.nm_steps.specs.Form.{each, during_of}
use Rattle.nm_steps.specs.Memory.{begins, flight_allocates}
use Rattle.nm_steps.proofs.Each.{with_front}
use Rattle.nm_steps.proofs.parsing.flights_of.Given as goal

abbrev pub invariant-loop-value : goal.invariant-loop-value
invariant-loop-value g l = record {
  read : with_front (shown_during l.flights.items) (each (during_of l.runs) (items_seen g.V.JsonValue.as_data (drop l.value-index l.values))) ≡ each (during_of l.runs) (items_seen g.V.JsonValue.as_data l.values);
  first : 0 < l.value-index → begins (flight_allocates l.runs) (items_seen g.V.JsonValue.as_data l.values) ≡ true;
}
