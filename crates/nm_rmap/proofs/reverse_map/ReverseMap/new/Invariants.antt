use Rattle.std.proofs.Common.{◌≡◌, [], replicate}
use Rattle.nm_rmap.proofs.reverse_map.ReverseMap.new.Given as goal

abbrev pub invariant-loop : goal.invariant-loop
invariant-loop g l = record {
  mappings : l.mappings.items ≡ replicate l.counter [];
  pins : l.pins.items ≡ replicate l.counter 0;
}
