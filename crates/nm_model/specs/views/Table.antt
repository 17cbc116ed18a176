-- Areas, and the segments that they show.
use Rattle.std.specs.Prelude.{ℕ}
use Rattle.nm_types.specs.declared.area.Area.{Area}
use Rattle.nm_types.specs.declared.area.Segment.{Segment}
use Rattle.nm_types.specs.Map.{Map}

-- the areas and the segments, and the number of the next segment
pub record Table : Type 0 where
  -- by pid and first page number
  pub areas : Map (ℕ × ℕ) Area
  pub segments : Map ℕ Segment
  pub next : ℕ

-- the table with other areas
abbrev pub with_areas : Table → Map (ℕ × ℕ) Area → Table
with_areas t areas = record t { areas = areas }
