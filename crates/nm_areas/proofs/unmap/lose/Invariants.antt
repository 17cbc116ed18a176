use Rattle.std.proofs.Common.{◌-◌, ◌+◌, ◌≡◌, ◌≤◌, ◌++◌, ℕ, true, length, vec_len, vec_capacity}
use Rattle.std.specs.Prelude.{min}
use Rattle.std.specs.List.{fold}
use Rattle.nm_types.specs.declared.area.Area.{Area}
use Rattle.nm_types.specs.declared.area.Segment.{Segment}
use Rattle.nm_types.specs.Map.{Map}
use Rattle.nm_areas.specs.Coverage.{IsCoverage}
use Rattle.nm_model.specs.definitions.Areas.{is_shared}
use Rattle.nm_model.specs.definitions.Areas.{pages_from}
use Rattle.nm_model.specs.definitions.Areas.{place_left, all_lost, pages_of_area}
use Rattle.nm_areas.proofs.unmap.lose.Given as goal

abbrev pub invariant-loop-found : goal.invariant-loop-found
invariant-loop-found g l = record {
  freed : (segments : Map ℕ Segment) (left : Map (ℕ × ℕ) Area) → IsCoverage l.steps segments left → is_shared segments l.segment ≡ true
      → l.freed.items ++ all_lost left l.places.entries (pages_from l.segment l.at (l.past - l.at)) ≡ l.fn.freed.items ++ all_lost left l.fn.places.entries (pages_of_area l.fn.area);
  places : (segments : Map ℕ Segment) (left : Map (ℕ × ℕ) Area) → IsCoverage l.steps segments left → is_shared segments l.segment ≡ true
      → fold (place_left left) l.places.entries (pages_from l.segment l.at (l.past - l.at)) ≡ fold (place_left left) l.fn.places.entries (pages_of_area l.fn.area);
  room : vec_len l.freed + min (length l.places.entries) (l.past - l.at) ≤ vec_capacity l.freed;
  counted : vec_len l.freed + length l.places.entries ≡ vec_len l.fn.freed + length l.fn.places.entries;
  few : vec_len l.freed + (l.past - l.at) ≤ vec_len l.fn.freed + l.fn.area.pages;
  same : vec_capacity l.freed ≡ vec_capacity l.fn.freed;
  up : l.at ≤ l.past;
}

abbrev pub decreases-loop-found : goal.decreases-loop-found
decreases-loop-found g l = l.past - l.at
