-- The page numbers that map each frame, and each frame's pins.
use Rattle.std.specs.Prelude.{◌≡◌, ℕ, nat_eq, nat_lt, Bool, List, [], ◌∷◌, Option, Some, None, map, replicate, slice_index_or, slice_set}
use Rattle.std.specs.List.{list_any, count_by}
use Rattle.std.specs.BTreeMap.{is_at}
use Rattle.std.specs.BTreeSet.{insert_key}
use Rattle.std.specs.Set.{remove_key, distinct_count, is_member}
use Rattle.nm_types.specs.Map.{spot_cmp}

-- a process and one of its page numbers
abbrev pub Mapper : Type 0
Mapper = ℕ × ℕ

-- the mappers with another one at its place in order; no change if it is there already
abbrev pub with_spot : List Mapper → Mapper → List Mapper
with_spot mappings spot = insert_key spot_cmp mappings spot

-- the mappers without one
abbrev pub without_spot : List Mapper → Mapper → List Mapper
without_spot mappings spot = remove_key (is_at (spot_cmp spot)) mappings

-- whether a page number of a process is among the mappings
abbrev pub is_mapper : List Mapper → Mapper → Bool
is_mapper mappings spot = list_any (is_at (spot_cmp spot)) mappings

-- the pids of the mappers, one for each
abbrev pub pids : List Mapper → List ℕ
pids mappings = map (λ spot. spot.0) mappings

-- whether a process has one of the mappers
abbrev pub has_process : List Mapper → ℕ → Bool
has_process mappings pid = is_member nat_eq (pids mappings) pid

-- how many processes have one of the mappers
abbrev pub process_count : List Mapper → ℕ
process_count mappings = distinct_count nat_eq (pids mappings)

-- the mappers of a frame: a single one, or else those of a set
abbrev pub spots_in : Option Mapper → List Mapper → List Mapper
spots_in None set = set
spots_in (Some lone) set = lone ∷ []

-- the set beside a single one is empty
abbrev pub IsAlone : Option Mapper → List Mapper → Type 0
IsAlone None set = Unit {0}
IsAlone (Some lone) set = set ≡ []

pub record Mappers : Type 0 where
  -- the page numbers that map each frame, by pid, then by page number
  pub mappings : List (List Mapper)
  -- the number of pins of each frame
  pub pins : List ℕ

-- `frames` frames without mappers and pins
abbrev pub new_map : ℕ → Mappers
new_map frames = record { mappings = replicate frames []; pins = replicate frames 0 }

-- the page numbers that map a frame
abbrev pub mappers_of : Mappers → ℕ → List Mapper
mappers_of m frame = slice_index_or m.mappings frame []

-- the number of pins of a frame
abbrev pub frame_pins : Mappers → ℕ → ℕ
frame_pins m frame = slice_index_or m.pins frame 0

-- how many of these numbers of pins are above 0
abbrev pub pinned_count : List ℕ → ℕ
pinned_count pins = count_by (λ n. nat_lt 0 n) pins

-- whether any frame has a pin
abbrev pub is_any_pinned : Mappers → Bool
is_any_pinned m = list_any (λ n. nat_lt 0 n) m.pins

-- the map with other mappers of a frame
abbrev pub with_mappers : Mappers → ℕ → List Mapper → Mappers
with_mappers m frame mappings = record { mappings = slice_set m.mappings frame mappings; pins = m.pins }

-- the map with one more mapper of a frame
abbrev pub with_mapper : Mappers → ℕ → Mapper → Mappers
with_mapper m frame spot = with_mappers m frame (with_spot (mappers_of m frame) spot)

-- the map without one mapper of a frame
abbrev pub without_mapper : Mappers → ℕ → Mapper → Mappers
without_mapper m frame spot = with_mappers m frame (without_spot (mappers_of m frame) spot)

-- the map with another number of pins of a frame
abbrev pub with_pin_count : Mappers → ℕ → ℕ → Mappers
with_pin_count m frame pins = record { mappings = m.mappings; pins = slice_set m.pins frame pins }

-- the mappers and pins of one frame go to another, which had none
abbrev pub carry : Mappers → ℕ → ℕ → Mappers
carry m from to =
    with_pin_count (with_mappers (with_pin_count (with_mappers m to (mappers_of m from)) to (frame_pins m from)) from []) from 0

-- the frame has no mappers and no pins
pub record IsUnused (m : Mappers) (frame : ℕ) : Type 0 where
  pub mappers : mappers_of m frame ≡ []
  pub pins : frame_pins m frame ≡ 0
