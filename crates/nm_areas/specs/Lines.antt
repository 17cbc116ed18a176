-- The list of a process's areas.
use Rattle.std.specs.Prelude.{ℕ, ◌==◌, List, map}
use Rattle.std.specs.List.{filter}
use Rattle.nm_types.specs.declared.area.Area as stored
use Rattle.nm_types.specs.declared.area.Segment.{Segment}
use Rattle.nm_types.specs.Map.{Map}
use Rattle.nm_types.specs.State.{PlacedArea}
use Rattle.nm_areas.specs.declared.lines.Area.{Area}
use Rattle.nm_model.specs.definitions.Areas.{is_shared}

-- an area, and whether its segment is shared
abbrev pub area_line : Map ℕ Segment → PlacedArea → Area
area_line segments a =
    let shared = is_shared segments a.1.page.segment in
    record { first = a.0.1; pages = a.1.pages; policy = a.1.policy; page = a.1.page; shared = shared }

-- the areas of a process, in address order
abbrev pub lines_of : Map ℕ Segment → Map (ℕ × ℕ) stored.Area → ℕ → List Area
lines_of segments areas pid = map (area_line segments) (filter (λ a. a.0.0 == pid) areas)
