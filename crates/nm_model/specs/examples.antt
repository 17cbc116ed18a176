-- The machines and processes of the worked examples.
pub mod BeforeCopy
pub mod Interleaved
pub mod Moving
pub mod Sharing
pub mod Unmapping
pub mod Deciding
pub mod Setting
pub mod Starts
use Rattle.std.specs.Prelude.{ℕ, ◌/◌, ℤ, Bool, true, false, List, [], ◌∷◌, map, Option}
use Rattle.nm_types.specs.Layout.{Layout}
use Rattle.nm_types.specs.State.{State}
use Rattle.nm_types.specs.declared.request.Wanted.TheVariants.{At as Spot}
use Rattle.nm_model.specs.definitions.Cut.{Request}
use Rattle.nm_model.specs.definitions.Touch.{read, write}
use Rattle.nm_model.specs.definitions.Seen.{frame_seen}
use Rattle.nm_model.specs.definitions.Run.{RunResult, batch, batch_answer}
use Rattle.nm_model.specs.definitions.Effect.{new_machine, spawn, map_new, attach}

-- five addresses, one page apart
abbrev pub A : ℕ
A = 0x10000

-- the second address
abbrev pub B : ℕ
B = 0x11000

-- the third address
abbrev pub C : ℕ
C = 0x12000

-- the fourth address
abbrev pub D : ℕ
D = 0x13000

-- the fifth address
abbrev pub E : ℕ
E = 0x14000

-- how many requests a run has at most: no example has more
abbrev pub limit : ℕ
limit = 4

-- node 0 with frames 0 to 3, and node 1 with frames 4 to 7
abbrev pub two_nodes : Layout
two_nodes = record { sizes = 4 ∷ 4 ∷ []; distances = (10 ∷ 20 ∷ []) ∷ (20 ∷ 10 ∷ []) ∷ [] }

-- three nodes of four frames each, all equally far apart
abbrev pub three_nodes : Layout
three_nodes =
    let distances : List (List ℕ) = (10 ∷ 20 ∷ 20 ∷ []) ∷ (20 ∷ 10 ∷ 20 ∷ []) ∷ (20 ∷ 20 ∷ 10 ∷ []) ∷ [] in
    record { sizes = 4 ∷ 4 ∷ 4 ∷ []; distances = distances }

-- process 1, with node 0 as its home, is the only one on two nodes
abbrev pub one_process : State
one_process = spawn (new_machine two_nodes) 1 100 0 (0 ∷ 1 ∷ []) false

-- process 2, with node 1 as its home
abbrev pub with_second : State → State
with_second s = spawn s 2 200 1 (0 ∷ 1 ∷ []) false

-- one byte is written
abbrev pub wrote : State → ℕ → ℕ → ℕ → State
wrote s pid address byte = (write s pid address (byte ∷ [])).state

-- three private pages with a byte each, in frames 0, 1 and 2
abbrev pub three_pages : State
three_pages = wrote (wrote (wrote (map_new one_process 1 A 3 false) 1 A 0x61) 1 B 0x62) 1 C 0x63

-- one shared page at two addresses of one process
abbrev pub two_addresses : State
two_addresses =
    let both = attach (map_new one_process 1 0x20000 1 true) 1 0x30000 0 0 1 in
    (read (wrote both 1 0x20000 0x61) 1 0x30000 1).state

-- four pages of process 1 fill node 0, and two of process 2 are on node 1
abbrev pub six_pages : State
six_pages =
    let four = wrote (wrote (wrote (wrote (map_new one_process 1 A 4 false) 1 A 0x61) 1 B 0x62) 1 C 0x63) 1 D 0x64 in
    wrote (wrote (map_new (with_second four) 2 A 2 false) 2 A 0x65) 2 B 0x66

-- seven pages of process 1: four on node 0, and three on node 1 by fallback
abbrev pub seven_pages : State
seven_pages =
    let four = wrote (wrote (wrote (wrote (map_new one_process 1 A 7 false) 1 A 0x61) 1 B 0x62) 1 C 0x63) 1 D 0x64 in
    wrote (wrote (wrote four 1 E 0x65) 1 0x15000 0x66) 1 0x16000 0x67

-- a shared page that process 1 has written
abbrev pub shared_page : State
shared_page = wrote (map_new one_process 1 0x20000 1 true) 1 0x20000 0x61

-- the same, attached by process 2 as well
abbrev pub attached_by_two : State
attached_by_two = attach (with_second shared_page) 2 0x20000 0 0 1

-- the same, after process 2 has read it
abbrev pub seen_by_two : State
seen_by_two = (read attached_by_two 2 0x20000 1).state

-- five pages, four of which are written
abbrev pub four_of_five : State
four_of_five = wrote (wrote (wrote (wrote (map_new one_process 1 A 5 false) 1 A 0x61) 1 B 0x62) 1 C 0x63) 1 D 0x64

-- requests of process 1 to move what it sees at these addresses
abbrev pub requests : Bool → List ℕ → ℕ → List Request
requests all addresses target =
    map (λ address. record { target = target; wanted = Spot 1 (address / 4096) all }) addresses

-- requests that leave pages which other processes see where they are
abbrev pub to : List ℕ → ℕ → List Request
to addresses target = requests false addresses target

-- of three nodes, node 0 has a page, and so has node 1
abbrev pub on_two_of_three : State
on_two_of_three =
    let one = spawn (new_machine three_nodes) 1 100 0 (0 ∷ 1 ∷ 2 ∷ []) false in
    (batch limit (wrote (wrote (map_new one 1 A 2 false) 1 A 0x61) 1 B 0x62) (to (B ∷ []) 1) []).state

-- the frame of the page that a process sees at an address
abbrev pub frame_shown_at : State → ℕ → ℕ → Option ℕ
frame_shown_at s pid address = frame_seen s pid (address / 4096)

-- what an example shows of a batch: the answer and the statuses, then the free lists and totals of the state
pub record BatchOutline : Type 0 where
  pub answer : ℕ
  pub statuses : List ℤ
  pub free : List (List ℕ)
  pub moved : ℕ
  pub failed : ℕ

-- what is shown of this batch
abbrev pub batch_outline : RunResult → BatchOutline
batch_outline r =
    record {
      answer = batch_answer r;
      statuses = r.statuses;
      free = r.state.free;
      moved = r.state.moved;
      failed = r.state.failed;
    }
