use Rattle.std.proofs.Common.{◌≡◌, map, take}
use Rattle.nm_calls.specs.definitions.Maps.{lines_shown}
use Rattle.nm_calls.specs.views.Tally.{line_text}
use Rattle.nm_calls.proofs.maps.areas_text.Given as goal

abbrev pub invariant-loop-area : goal.invariant-loop-area
invariant-loop-area g l = lines_shown l.lines.items ≡ map (line_text l.machine l.pid) (take l.area-index l.areas)
