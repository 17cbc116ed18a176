use Rattle.std.proofs.Common.{◌≡◌, ◌<◌, true, drop}
use Rattle.nm_steps.specs.Lists.{items_seen}
use Rattle.nm_steps.specs.Form.{each, u64_of}
use Rattle.nm_steps.specs.Memory.{starts}
use Rattle.nm_steps.proofs.Each.{with_front}
use Rattle.nm_steps.proofs.keys.numbers_of.Given as goal

abbrev pub invariant-loop-value : goal.invariant-loop-value
invariant-loop-value g l = record {
  read : with_front l.numbers.items (each u64_of (items_seen g.V.JsonValue.as_data (drop l.value-index l.values))) ≡ each u64_of (items_seen g.V.JsonValue.as_data l.values);
  first : 0 < l.value-index → starts u64_of (items_seen g.V.JsonValue.as_data l.values) ≡ true;
}
