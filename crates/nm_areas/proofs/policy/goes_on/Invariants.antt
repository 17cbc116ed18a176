use Rattle.std.proofs.Common.{◌-◌, ℕ, ◌+◌, ◌≡◌, ◌≤◌}
use Rattle.nm_types.specs.Map.{spot_cmp}
use Rattle.nm_model.specs.definitions.Areas.{is_well_formed}
use Rattle.nm_areas.specs.Rests.{IsRest}
use Rattle.nm_areas.proofs.Own.{NoneBegins}
use Rattle.nm_areas.proofs.Filled.{NoneReaches}
use Rattle.nm_areas.proofs.policy.goes_on.Given as goal

abbrev pub invariant-loop-at : goal.invariant-loop-at
invariant-loop-at g l = record {
  mapped : is_well_formed l.areas.entries l.pid (l.fn.first + l.fn.area.pages) (l.end - (l.fn.first + l.fn.area.pages)) ≡ is_well_formed l.areas.entries l.pid l.at (l.end - l.at);
  reaches : NoneReaches l.areas.entries l.pid l.at;
  rest : (from : ℕ) × (from ≤ l.at) × NoneBegins l.areas.entries l.pid from l.at × IsRest spot_cmp l.areas.entries (l.pid, from) l.rest;
}

abbrev pub decreases-loop-at : goal.decreases-loop-at
decreases-loop-at g l = l.end - l.at
