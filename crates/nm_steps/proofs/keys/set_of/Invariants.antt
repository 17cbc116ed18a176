use Rattle.std.proofs.Common.{◌≡◌, [], drop, option_map}
use Rattle.std.specs.List.{fold}
use Rattle.std.specs.Ordering.{nat_cmp}
use Rattle.std.specs.BTreeSet.{insert_key}
use Rattle.nm_steps.specs.Lists.{items_seen}
use Rattle.nm_steps.specs.Form.{each, number_below}
use Rattle.nm_steps.proofs.keys.set_of.Given as goal

abbrev pub invariant-loop-value : goal.invariant-loop-value
invariant-loop-value g l =
    option_map (fold (insert_key nat_cmp) l.mask) (each (number_below 64) (items_seen g.V.JsonValue.as_data (drop l.value-index l.values)))
    ≡ option_map (fold (insert_key nat_cmp) []) (each (number_below 64) (items_seen g.V.JsonValue.as_data l.values))
