-- A worked example: the three mappers of one frame are carried over to another.
use Rattle.std.specs.Prelude.{◌≡◌, List, [], ◌∷◌}
use Rattle.nm_rmap.specs.Mappers.{Mappers, Mapper, new_map, mappers_of, with_mapper, carry, process_count}

-- of eight frames the first is mapped by two page numbers of process 1 and one of process 2
abbrev pub three_mappers : Mappers
three_mappers = with_mapper (with_mapper (with_mapper (new_map 8) 0 (2, 64)) 0 (1, 32)) 0 (1, 16)

-- by pid, then by page number
abbrev pub mappers_in_order : List Mapper
mappers_in_order = (1, 16) ∷ (1, 32) ∷ (2, 64) ∷ []

abbrev pub MappersAreInOrder : Type 0
MappersAreInOrder = mappers_of three_mappers 0 ≡ mappers_in_order

-- two page numbers of a process count once
abbrev pub TwoProcesses : Type 0
TwoProcesses = process_count mappers_in_order ≡ 2

-- frame 4 has the mappers of frame 0
abbrev pub MappersAreCarried : Type 0
MappersAreCarried = mappers_of (carry three_mappers 0 4) 4 ≡ mappers_in_order

-- frame 0 has none
abbrev pub NoneIsLeft : Type 0
NoneIsLeft = mappers_of (carry three_mappers 0 4) 0 ≡ []
