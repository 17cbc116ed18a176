-- A machine, and the calls by which a page moves.
use Rattle.std.specs.Prelude.{false, [], ◌∷◌}
use Rattle.nm_types.specs.Layout.{Layout}
use Rattle.nm_requests.specs.Calls.{Call, Spawn, MapPages, ReadBytes, WriteBytes, MovePages, Query}
use Rattle.nm_passes.specs.declared.call_error.CallError.{CallError}
use Rattle.nm_passes.specs.declared.call_error.CallError.TheVariants.{Refused, HostMemory}
use Rattle.nm_calls.specs.definitions.Outcome.{outcome}
use Rattle.nm_calls.specs.definitions.Systems.{SystemState, new_system}

-- two nodes of four frames each, at distance 10 to themselves and 20 to each other
abbrev pub nodes_to_use : Layout
nodes_to_use = record { sizes = 4 ∷ 4 ∷ []; distances = (10 ∷ 20 ∷ []) ∷ (20 ∷ 10 ∷ []) ∷ [] }

-- process 1, of user 100, is at home on node 0, and may use both nodes
abbrev pub spawning : Call
spawning = Spawn 1 100 0 (0 ∷ 1 ∷ []) false

-- it has a page from address 65,536 on ..
abbrev pub mapping : Call
mapping = MapPages 1 65536 1 false

-- .. writes the byte 97 there ..
abbrev pub writing : Call
writing = WriteBytes 1 65536 (97 ∷ [])

-- .. and asks that the page moves to node 1
abbrev pub request_to_move : Call
request_to_move = MovePages 1 0 (65536 ∷ []) (1 ∷ []) 2 []

-- then it asks where the page is, and reads the byte
abbrev pub asking : Call
asking = Query 1 0 (65536 ∷ []) 2

abbrev pub reading : Call
reading = ReadBytes 1 65536 1

-- the system after each of them
abbrev pub after_spawn : SystemState
after_spawn = (outcome (new_system nodes_to_use) spawning).system

abbrev pub after_map : SystemState
after_map = (outcome after_spawn mapping).system

abbrev pub after_write : SystemState
after_write = (outcome after_map writing).system

abbrev pub after_move : SystemState
after_move = (outcome after_write request_to_move).system

-- the host is out of memory
abbrev pub IsMemory : CallError → Type 0
IsMemory (Refused errno) = ⊥
IsMemory (HostMemory runs policy_set) = Unit {0}
