use Rattle.std.proofs.Common.{ℕ, length}
use Rattle.nm_types.specs.Map.{spot_cmp}
use Rattle.nm_areas.specs.Rests.{IsRest}
use Rattle.nm_areas.proofs.Tallied.{NoneShown}
use Rattle.nm_areas.proofs.places.shows_counted.Given as goal

abbrev pub invariant-loop-start : goal.invariant-loop-start
invariant-loop-start g l = record {
  rest : (from : ℕ) × IsRest spot_cmp l.table.areas (l.pid, from) l.rest × NoneShown l.table.areas l.places.entries l.counts l.pid l.first l.end from;
}

abbrev pub decreases-loop-start : goal.decreases-loop-start
decreases-loop-start g l = length l.rest
