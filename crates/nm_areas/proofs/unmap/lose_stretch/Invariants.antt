use Rattle.std.proofs.Common.{◌-◌, ◌+◌, ◌≡◌, ◌≤◌, ◌++◌, [], length, vec_len, vec_capacity}
use Rattle.std.specs.Prelude.{min}
use Rattle.std.specs.List.{fold}
use Rattle.nm_model.specs.definitions.Areas.{pages_from}
use Rattle.nm_model.specs.definitions.Areas.{place_left, all_lost}
use Rattle.nm_areas.proofs.unmap.lose_stretch.Given as goal

abbrev pub invariant-loop-index : goal.invariant-loop-index
invariant-loop-index g l = record {
  freed : l.freed.items ++ all_lost [] l.places.entries (pages_from l.segment l.at (l.past - l.at)) ≡ l.fn.freed.items ++ all_lost [] l.fn.places.entries (pages_from l.segment l.fn.first (l.past - l.fn.first));
  places : fold (place_left []) l.places.entries (pages_from l.segment l.at (l.past - l.at)) ≡ fold (place_left []) l.fn.places.entries (pages_from l.segment l.fn.first (l.past - l.fn.first));
  room : vec_len l.freed + min (length l.places.entries) (l.past - l.at) ≤ vec_capacity l.freed;
  counted : vec_len l.freed + length l.places.entries ≡ vec_len l.fn.freed + length l.fn.places.entries;
  few : vec_len l.freed + (l.past - l.at) ≤ vec_len l.fn.freed + (l.past - l.fn.first);
  same : vec_capacity l.freed ≡ vec_capacity l.fn.freed;
  low : l.fn.first ≤ l.at;
  up : l.at ≤ l.past;
}

abbrev pub decreases-loop-index : goal.decreases-loop-index
decreases-loop-index g l = l.past - l.at
