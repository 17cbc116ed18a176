use Rattle.std.proofs.Common.{ℕ, ◌≡◌, ◌++◌, length}
use Rattle.nm_types.specs.Map.{spot_cmp}
use Rattle.nm_areas.specs.Lines.{lines_of}
use Rattle.nm_areas.specs.Rests.{IsRest}
use Rattle.nm_areas.proofs.Own.{lines_from}
use Rattle.nm_areas.proofs.lines.list_lines.Given as goal

abbrev pub invariant-loop-first : goal.invariant-loop-first
invariant-loop-first g l = record {
  rest : (at : ℕ) × IsRest spot_cmp l.areas.entries (l.pid, at) l.rest × (l.lines.items ++ lines_from l.segments.entries l.areas.entries l.pid at ≡ lines_of l.segments.entries l.areas.entries l.pid);
}

abbrev pub decreases-loop-first : goal.decreases-loop-first
decreases-loop-first g l = length l.rest
