use Rattle.std.proofs.Common.{ℕ, ◌≤◌, length}
use Rattle.nm_types.specs.Map.{page_cmp}
use Rattle.nm_model.specs.definitions.Areas.{page_in}
use Rattle.nm_areas.specs.Rests.{IsRest}
use Rattle.nm_areas.proofs.Tallied.{NoneTallied}
use Rattle.nm_areas.proofs.places.has_counted.Given as goal

abbrev pub invariant-loop-frame : goal.invariant-loop-frame
invariant-loop-frame g l = record {
  rest : (from : ℕ) × (l.at ≤ from) × IsRest page_cmp l.places.entries (page_in l.segment from) l.rest × NoneTallied l.places.entries l.counts l.segment l.at from l.past;
}

abbrev pub decreases-loop-frame : goal.decreases-loop-frame
decreases-loop-frame g l = length l.rest
