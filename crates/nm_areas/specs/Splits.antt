-- Where splitting the areas of a process makes one more of them.
use Rattle.std.specs.Prelude.{◌≡◌, ℕ, ◌<◌, Some}
use Rattle.nm_types.specs.declared.area.Area.{Area}
use Rattle.nm_types.specs.Map.{Map}
use Rattle.nm_types.specs.State.{PlacedArea, area_over}

-- an area of the process covers a page number and begins before it
abbrev pub HasSplit : Map (ℕ × ℕ) Area → ℕ → ℕ → Type 0
HasSplit areas pid at = (a : PlacedArea) × (area_over areas pid at ≡ Some a) × (a.0.1 < at)
