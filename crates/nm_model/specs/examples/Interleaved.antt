-- A worked example: one page moves, and three accesses are made during its run.
use Rattle.std.specs.Prelude.{◌≡◌, ℕ, false, List, [], ◌∷◌, ◌++◌, map, replicate, Option, Some, None, Bool}
use Rattle.std.specs.Option.{option_map}
use Rattle.nm_types.specs.Map.{get, page_cmp, with_values, Map}
use Rattle.nm_types.specs.declared.page.Page.{Page}
use Rattle.nm_types.specs.State.{Process, State}
use Rattle.nm_model.specs.definitions.Frames.{Store}
use Rattle.nm_types.specs.declared.request.Wanted.{Wanted}
use Rattle.nm_types.specs.declared.request.Wanted.TheVariants.{At as Spot}
use Rattle.nm_model.specs.definitions.PageTables.{Task, entry_of}
use Rattle.nm_model.specs.definitions.Effect.{info_of}
use Rattle.nm_model.specs.definitions.Memory.{mem}
use Rattle.nm_model.specs.definitions.Touch.{Read, Write, AccessAnswer, Bytes, Done, Held}
use Rattle.nm_model.specs.examples.{A, B, C, D, E, four_of_five, frame_shown_at}
use Rattle.nm_model.specs.definitions.RunMachine.{RunMachine, Ready, InHand, Given, state_of}
use Rattle.nm_model.specs.definitions.Events.{Event, Begin, Draw, Give, Touch, End, after, hands, Hold, Home, InJob, is_ready}

-- a process by its page table
abbrev pub task_of : Map Page ℕ → Process → Task
task_of place p = record { info = info_of p; table = with_values (λ v sight. entry_of place sight) p.sees }

-- the machine at rest of this state, with these bytes in its frames
abbrev pub machine_at_rest : State → Store → RunMachine
machine_at_rest s buf =
    record {
      layout = s.layout;
      tasks = with_values (λ pid p. task_of s.place p) s.processes;
      areas = s.areas;
      segments = s.segments;
      next_segment = s.next_segment;
      place = s.place;
      pins = s.pins;
      buf = buf;
      free = s.free;
      online = s.online;
      moved = s.moved;
      failed = s.failed;
      phase = Ready;
      jobs = [];
      statuses = [];
      answers = [];
    }

-- the bytes of the page at this index of the first segment
abbrev pub page_bytes : State → ℕ → Option (List ℕ)
page_bytes s index = get page_cmp s.bytes (record { segment = 0; index = index })

-- four pages are in frames 0 to 3, and four frames are free and full of ones
abbrev pub buffers : Store
buffers =
    map (page_bytes four_of_five) (0 ∷ 1 ∷ 2 ∷ 3 ∷ []) ++ replicate 4 (Some (replicate 4096 1))

abbrev pub resting_machine : RunMachine
resting_machine = machine_at_rest four_of_five buffers

-- the machine at the start, read as a state, is the state that it was made from
abbrev pub StartIsRead : Type 0
StartIsRead = state_of resting_machine ≡ four_of_five

-- a request to move the first page to the other node
abbrev pub move_of_first : List Wanted
move_of_first = Spot 1 0x10 false ∷ []

-- worker 3 draws the job while the first page is read; the second is read and the fifth written; then the job is given
-- back
abbrev pub copy_after_accesses : List Event
copy_after_accesses =
    Touch (Read 1 A 1) ∷ Draw 3 ∷ Touch (Read 1 B 1) ∷ Touch (Write 1 E (0x65 ∷ [])) ∷ Give 3 0 ∷ End ∷ []

-- worker 0 copies before all accesses
abbrev pub copy_before_accesses : List Event
copy_before_accesses =
    Draw 0 ∷ Give 0 0 ∷ Touch (Read 1 A 1) ∷ Touch (Read 1 B 1) ∷ Touch (Write 1 E (0x65 ∷ [])) ∷ End ∷ []

-- what the example shows of a machine
pub record MachineOutline : Type 0 where
  pub ready : Bool
  pub free : List (List ℕ)
  pub moved : ℕ
  pub frames : List (Option ℕ)
  -- of the first, the second and the fifth page
  pub bytes : List (Option ℕ)
  pub answers : List AccessAnswer
  pub hands_of_four : List Hold

abbrev pub machine_outline : RunMachine → MachineOutline
machine_outline m =
    record {
      ready = is_ready m.phase;
      free = m.free;
      moved = m.moved;
      frames = map (frame_shown_at (state_of m) 1) (A ∷ B ∷ C ∷ D ∷ E ∷ []);
      bytes = map (mem (state_of m) 1) (A ∷ B ∷ E ∷ []);
      answers = m.answers;
      hands_of_four = hands m 4;
    }

-- the end in both orders
abbrev pub end : MachineOutline
end =
    record {
      ready = false;
      free = (0 ∷ []) ∷ (6 ∷ 7 ∷ []) ∷ [];
      moved = 1;
      frames = Some 4 ∷ Some 1 ∷ Some 2 ∷ Some 3 ∷ Some 5 ∷ [];
      bytes = Some 0x61 ∷ Some 0x62 ∷ Some 0x65 ∷ [];
      answers = Held ∷ Bytes (0x62 ∷ []) ∷ Done ∷ [];
      hands_of_four = Home ∷ [];
    }

-- both orders end alike
abbrev pub BothOrdersEndAlike : Type 0
BothOrdersEndAlike =
    (option_map machine_outline (after resting_machine (Begin 1 move_of_first ∷ copy_after_accesses)) ≡ Some end)
    × (option_map machine_outline (after resting_machine (Begin 1 move_of_first ∷ copy_before_accesses)) ≡ Some end)

-- the holders of the buffers of some frames
abbrev pub hands_of : List ℕ → RunMachine → List (List Hold)
hands_of frames m = map (hands m) frames

-- after the draw the job's buffers are with worker 3, and the page that moves is already in its new frame
abbrev pub InTheMiddle : Type 0
InTheMiddle =
    (option_map (hands_of (0 ∷ 4 ∷ 5 ∷ [])) (after resting_machine (Begin 1 move_of_first ∷ Touch (Read 1 A 1) ∷ Draw 3 ∷ []))
    ≡ Some ((InJob (InHand 3) ∷ []) ∷ (InJob (InHand 3) ∷ []) ∷ (Home ∷ []) ∷ []))
    × (option_map (λ m. frame_shown_at (state_of m) 1 A) (after resting_machine (Begin 1 move_of_first ∷ [])) ≡ Some (Some 4))

-- not allowed: giving back another worker's job, ending before all jobs are given back, beginning twice
abbrev pub NotAllowed : Type 0
NotAllowed =
    (after resting_machine (Begin 1 move_of_first ∷ Draw 3 ∷ Give 2 0 ∷ []) ≡ None)
    × (after resting_machine (Begin 1 move_of_first ∷ Draw 3 ∷ End ∷ []) ≡ None)
    × (after resting_machine (Begin 1 move_of_first ∷ Begin 1 move_of_first ∷ []) ≡ None)
    × (after resting_machine (Draw 3 ∷ []) ≡ None)

-- the frames of the first two pages, and the free lists
abbrev pub frames_and_free : RunMachine → List (Option ℕ) × List (List ℕ)
frames_and_free m = (map (frame_shown_at (state_of m) 1) (A ∷ B ∷ []), m.free)

-- requests to move two pages
abbrev pub two_wanted : List Wanted
two_wanted = Spot 1 0x10 false ∷ Spot 1 0x11 false ∷ []

-- workers 1 and 2 draw in the order of the moves, and worker 2 gives back first
abbrev pub two_workers : List Event
two_workers = Draw 1 ∷ Draw 2 ∷ Give 2 1 ∷ []

-- during the run each buffer is where its job is; at the end the pages are in their new frames, and the old ones are
-- free
abbrev pub TwoWorkersCopy : Type 0
TwoWorkersCopy =
    (option_map (hands_of (0 ∷ 1 ∷ 4 ∷ 5 ∷ [])) (after resting_machine (Begin 1 two_wanted ∷ two_workers))
    ≡ Some ((InJob (InHand 1) ∷ []) ∷ (InJob Given ∷ []) ∷ (InJob (InHand 1) ∷ []) ∷ (InJob Given ∷ []) ∷ []))
    × (option_map frames_and_free (after resting_machine (Begin 1 two_wanted ∷ two_workers ++ Give 1 0 ∷ End ∷ []))
    ≡ Some ((Some 4 ∷ Some 5 ∷ []), (0 ∷ 1 ∷ []) ∷ (6 ∷ 7 ∷ []) ∷ []))
