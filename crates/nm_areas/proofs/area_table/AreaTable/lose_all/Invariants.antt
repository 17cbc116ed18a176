use Rattle.std.proofs.Common.{◌-◌, ◌+◌, ◌≡◌, ◌≤◌, ◌++◌, length, vec_len, vec_capacity}
use Rattle.std.specs.Prelude.{min}
use Rattle.std.specs.List.{fold}
use Rattle.nm_model.specs.definitions.Areas.{place_left, all_lost, others, pages_of_own}
use Rattle.nm_areas.proofs.area_table.AreaTable.lose_all.Given as goal

abbrev pub invariant-loop-start : goal.invariant-loop-start
invariant-loop-start g l =
    let left = others l.pid l.fn.first l.end l.self.areas in
    record {
      freed : l.freed.items ++ all_lost left l.places.entries (pages_of_own l.pid l.at l.end l.self.areas)
          ≡ l.fn.freed.items ++ all_lost left l.fn.places.entries (pages_of_own l.pid l.fn.first l.end l.self.areas);
      places : fold (place_left left) l.places.entries (pages_of_own l.pid l.at l.end l.self.areas) ≡ fold (place_left left) l.fn.places.entries (pages_of_own l.pid l.fn.first l.end l.self.areas);
      room : vec_len l.freed + min (length l.places.entries) (length (pages_of_own l.pid l.at l.end l.self.areas)) ≤ vec_capacity l.freed;
      kept : vec_capacity l.freed ≡ vec_capacity l.fn.freed;
      low : l.fn.first ≤ l.at;
      up : l.at ≤ l.end;
    }

abbrev pub decreases-loop-start : goal.decreases-loop-start
decreases-loop-start g l = l.end - l.at
