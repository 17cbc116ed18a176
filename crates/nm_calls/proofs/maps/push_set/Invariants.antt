use Rattle.std.proofs.Common.{◌≡◌, ◌<◌, ◌++◌, map, length, string_bytes}
use Rattle.nm_calls.specs.definitions.Maps.{stretches, stretch_text, set_text}
use Rattle.nm_calls.specs.views.Tally.{comma}
use Rattle.nm_calls.proofs.Lines.ConsecutiveNodes.{joined_after}
use Rattle.nm_calls.proofs.maps.push_set.Given as goal

abbrev pub invariant-loop-first : goal.invariant-loop-first
invariant-loop-first g l = record {
  some : 0 < length l.rest → 0 < length l.fn.nodes;
  text : string_bytes l.line ++ joined_after (comma l.behind) (map stretch_text (stretches l.rest)) ≡ string_bytes l.fn.line ++ set_text l.fn.nodes;
}

abbrev pub decreases-loop-first : goal.decreases-loop-first
decreases-loop-first g l = length (stretches l.rest)
