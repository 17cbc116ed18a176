use Rattle.std.proofs.Common.{◌≡◌, ◌+◌, ◌<◌, true, drop, map}
use Rattle.nm_steps.specs.Lists.{items_seen}
use Rattle.nm_steps.specs.Form.{each, step_of}
use Rattle.nm_steps.specs.Faults.{first_bad}
use Rattle.nm_requests.specs.Views.{call_of}
use Rattle.nm_steps.specs.Memory.{begins, step_allocates}
use Rattle.nm_steps.proofs.Each.{with_front}
use Rattle.nm_steps.proofs.reading.calls_of.Given as goal

abbrev pub invariant-loop-k : goal.invariant-loop-k
invariant-loop-k g l = record {
  read : with_front (map call_of l.calls.items) (each (step_of l.limit) (items_seen g.V.JsonValue.as_data (drop l.k l.values))) ≡ each (step_of l.limit) (items_seen g.V.JsonValue.as_data l.values);
  place : l.k + first_bad l.limit (items_seen g.V.JsonValue.as_data (drop l.k l.values)) ≡ first_bad l.limit (items_seen g.V.JsonValue.as_data l.values);
  first : 0 < l.k → begins (step_allocates l.limit) (items_seen g.V.JsonValue.as_data l.values) ≡ true;
}
