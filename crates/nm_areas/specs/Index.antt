-- The areas by the segments that they show.
use Rattle.std.specs.Prelude.{◌≡◌, ℕ, ◌==◌, Bool, false, List, Option, Some, None}
use Rattle.std.specs.BTreeMap.{is_at}
use Rattle.std.specs.List.{list_any}
use Rattle.std.specs.Ordering.{nat_cmp, ordering_then}
use Rattle.std.specs.declared.cmp.Ordering.{Ordering}
use Rattle.nm_types.specs.declared.area.Area.{Area}
use Rattle.nm_types.specs.Map.{Map, get, spot_cmp}

-- a segment, and an area's pid and first page number
abbrev pub Key : Type 0
Key = ℕ × ℕ × ℕ

-- by segment, then by pid and first page number
abbrev pub key_cmp : Key → Key → Ordering
key_cmp a b = ordering_then (ordering_then (nat_cmp a.0 b.0) (nat_cmp a.1 b.1)) (nat_cmp a.2 b.2)

-- whether there is an area, and it shows pages of this segment
abbrev pub is_of : ℕ → Option Area → Bool
is_of number None = false
is_of number (Some area) = area.page.segment == number

-- whether the area with that pid and first page number shows pages of that segment
abbrev pub is_key : Map (ℕ × ℕ) Area → Key → Bool
is_key areas k = is_of k.0 (get spot_cmp areas (k.1, k.2))

-- the keys are those of the areas, each with its segment
abbrev pub IsIndex : List Key → Map (ℕ × ℕ) Area → Type 0
IsIndex keys areas = (k : Key) → list_any (is_at (key_cmp k)) keys ≡ is_key areas k
