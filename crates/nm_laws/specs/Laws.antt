-- What holds for every state, run and request.
use Rattle.std.specs.Prelude.{◌≡◌, ◌≤◌, ℕ, ◌+◌, ◌-◌, ◌/◌, ◌%◌, nat_le, nat_lt, Bool, true, false, ◌&&◌, List, [], ◌∷◌, map, length}
use Rattle.std.specs.Prelude.{drop, slice_index, slice_set, Option, Some, None, if◌then◌else◌}
use Rattle.std.specs.List.{fold}
use Rattle.std.specs.List.Sorted.{IsStrictlySortedBy}
use Rattle.std.specs.Map.{keys_of}
use Rattle.std.specs.Ordering.{nat_cmp}
use Rattle.nm_types.specs.declared.page.Page.{Page}
use Rattle.nm_types.specs.Map.{Map, set, page_cmp, same_page}
use Rattle.nm_types.specs.Layout.{Layout}
use Rattle.nm_types.specs.declared.area.Area.{Area}
use Rattle.nm_types.specs.declared.area.Policy.{Policy}
use Rattle.nm_types.specs.State.{State, page_at, free_list}
use Rattle.nm_types.specs.declared.request.Wanted.{Wanted}
use Rattle.nm_types.specs.declared.seen.Seen.TheVariants.{At}
use Rattle.nm_model.specs.definitions.Seen.{look}
use Rattle.nm_model.specs.definitions.Cut.{Request, Stretch}
use Rattle.nm_model.specs.definitions.Status.{status_or_move, class_of}
use Rattle.nm_types.specs.declared.page_move.PageMove.{PageMove}
use Rattle.nm_model.specs.definitions.Decide.{Decisions, decide}
use Rattle.nm_model.specs.definitions.Memory.{mem}
use Rattle.nm_model.specs.definitions.Touch.{Access, Write, AccessAnswer, Done, read, write, access}
use Rattle.nm_model.specs.definitions.Run.{Progress, HasOneAll, each_request, with_all_free, run, accesses_of, runs_from, batch}
use Rattle.nm_model.specs.definitions.Sound.{each_frame_is_once, OwnsItsFree, IsSoundInFlight, IsSound}
use Rattle.nm_model.specs.definitions.Effect.{new_machine, spawn, map_new, attach, pin, unpin, unmap, exit}
use Rattle.nm_model.specs.definitions.Effect.{spawn_refusal, map_refusal, attach_refusal, pin_refusal, set_policy}

-- on a sound machine each frame is in exactly one place
abbrev pub SoundIsAudited : Type 0
SoundIsAudited = (s : State) → IsSound s → each_frame_is_once s ≡ true

-- a look that counts the processes is enough to decide what to do with a request
abbrev pub LooksSuffice : Type 0
LooksSuffice =
    (s : State) (target : ℕ) (w : Wanted) →
    IsStrictlySortedBy nat_cmp (keys_of s.processes) → class_of s target w ≡ status_or_move s target w

-- a look counts no more processes than can be alive
abbrev pub LooksAreBounded : Type 0
LooksAreBounded =
    (s : State) (pid v : ℕ) (p : Page) (frame processes : ℕ) (pinned : Bool) →
    IsSound s → look s pid v ≡ At p frame processes pinned → processes ≤ 1024

-- deciding requests changes no byte that a process has at an address
abbrev pub DecidingKeepsMemory : Type 0
DecidingKeepsMemory =
    (s : State) (target : ℕ) (ws : List Wanted) (pid address : ℕ) →
    mem (each_request s target ws).state pid address ≡ mem s pid address

-- nor does freeing frames
abbrev pub FreeingKeepsMemory : Type 0
FreeingKeepsMemory =
    (s : State) (frames : List ℕ) (pid address : ℕ) → mem (with_all_free s frames) pid address ≡ mem s pid address

-- nor does a batch without accesses in flight, run after run
abbrev pub BatchKeepsMemory : Type 0
BatchKeepsMemory =
    (limit : ℕ) (s : State) (requests : List Request) (pid address : ℕ) →
    mem (batch limit s requests []).state pid address ≡ mem s pid address

-- nor does a read, though it may take a frame
abbrev pub ReadingKeepsMemory : Type 0
ReadingKeepsMemory =
    (s : State) (left : List ℕ) (pid address len q at : ℕ) →
    IsSoundInFlight s left → mem (read s pid address len).state q at ≡ mem s q at

-- whether two addresses show one page
abbrev pub is_one_page : Option Page → Option Page → Bool
is_one_page None o = false
is_one_page (Some p) None = false
is_one_page (Some p) (Some q) = same_page p q

-- whether `at` is one of the `count` numbers from `first` on
abbrev pub is_within : ℕ → ℕ → ℕ → Bool
is_within first count at = nat_le first at && nat_lt at (first + count)

-- whether `len` bytes of a process from `address` on, in one page, include the byte that process `q` has at address
-- `at`
abbrev pub includes_byte : Map (ℕ × ℕ) Area → ℕ → ℕ → ℕ → ℕ → ℕ → Bool
includes_byte areas pid address len q at =
    is_one_page (page_at areas pid (address / 4096)) (page_at areas q (at / 4096)) && is_within (address % 4096) len (at % 4096)

-- the byte that a process has at an address after an access: a write that was made has put its own there
abbrev pub byte_after_access : Map (ℕ × ℕ) Area → ℕ → ℕ → Option ℕ → Access → AccessAnswer → Option ℕ
byte_after_access areas q at byte (Write pid address new) Done =
    if includes_byte areas pid address (length new) q at then Some (slice_index new (at % 4096 - address % 4096)) else byte
byte_after_access areas q at byte a answer = byte

-- the byte after these accesses, made one after another
abbrev pub all_written : Map (ℕ × ℕ) Area → ℕ → ℕ → Option ℕ → List Access → List AccessAnswer → Option ℕ
all_written areas q at byte (a ∷ accesses) (answer ∷ answers) =
    all_written areas q at (byte_after_access areas q at byte a answer) accesses answers
all_written areas q at byte accesses answers = byte

-- the byte after the accesses of these runs, made one run after another and numbered from k on
abbrev pub runs_written : Map (ℕ × ℕ) Area → ℕ → ℕ → Option ℕ → List (ℕ × Access) → ℕ → List (List AccessAnswer) → Option ℕ
runs_written areas q at byte accesses k [] = byte
runs_written areas q at byte accesses k (answers ∷ rest) =
    runs_written areas q at (all_written areas q at byte (accesses_of k accesses) answers) accesses (k + 1) rest

-- a write gives its bytes to everyone who has the page in an area, and changes no other byte
abbrev pub WritingIsExact : Type 0
WritingIsExact =
    (s : State) (left : List ℕ) (pid address : ℕ) (new : List ℕ) (q at : ℕ) →
    IsSoundInFlight s left → (write s pid address new).answer ≡ Done →
    mem (write s pid address new).state q at ≡ byte_after_access s.areas q at (mem s q at) (Write pid address new) Done

-- a run keeps every byte except those of its own writes in flight that are made: held and refused writes, and reads,
-- change none
abbrev pub RunKeepsMemory : Type 0
RunKeepsMemory =
    (s : State) (target : ℕ) (ws : List Wanted) (accesses : List Access) (answers : List AccessAnswer) (q at : ℕ) →
    IsSound s → (run s target ws accesses).answers ≡ answers ∷ [] →
    mem (run s target ws accesses).state q at ≡ all_written s.areas q at (mem s q at) accesses answers

-- so do several runs, made one after another: every byte is that of the last write in flight made there in any of them,
-- or else the same as before the first run
abbrev pub RunsKeepMemory : Type 0
RunsKeepMemory =
    (s : State) (runs : List Stretch) (accesses : List (ℕ × Access)) (q at : ℕ) → IsSound s →
    let after = runs_from 0 s runs accesses in
    mem after.state q at ≡ runs_written s.areas q at (mem s q at) accesses 0 after.answers

-- setting a policy changes no page that an area shows, and no byte
abbrev pub PolicyKeepsMemory : Type 0
PolicyKeepsMemory =
    (s : State) (pid address len : ℕ) (policy : Policy) (q v at : ℕ) → IsSound s →
    let t = set_policy s pid address len policy in
    (page_at t.areas q v ≡ page_at s.areas q v) × (mem t q at ≡ mem s q at)

-- a page takes the front frame of the target
abbrev pub with_move : ℕ → State → PageMove → State
with_move target s t =
    record s { place = set page_cmp s.place t.page t.to; free = slice_set s.free target (drop 1 (free_list s target)) }

-- one page after another takes the target's front frame
abbrev pub with_moves : State → ℕ → List PageMove → State
with_moves s target taken = fold (with_move target) s taken

-- the state after deciding one request after another is what the decisions say
pub record Agrees (s : State) (target : ℕ) (p : Progress) (d : Decisions) : Type 0 where
  pub statuses : p.statuses ≡ d.statuses
  pub taken : p.taken ≡ d.taken
  pub state : p.state ≡ with_moves s target d.taken

-- classing all requests of a run at its start and then deciding them is the same as deciding one after another
abbrev pub PlanIsOneByOne : Type 0
PlanIsOneByOne =
    (s : State) (target : ℕ) (ws : List Wanted) →
    IsStrictlySortedBy nat_cmp (keys_of s.processes) → OwnsItsFree s.layout s.free target → HasOneAll ws →
    Agrees s target (each_request s target ws) (decide (map (status_or_move s target) ws) [] (free_list s target) target)

-- reads and writes keep a machine sound, also during a run that has left these frames
abbrev pub AccessIsSound : Type 0
AccessIsSound = (s : State) (left : List ℕ) (a : Access) → IsSoundInFlight s left → IsSoundInFlight (access s a).state left

-- so does a run with accesses in flight
abbrev pub RunIsSound : Type 0
RunIsSound =
    (s : State) (target : ℕ) (ws : List Wanted) (accesses : List Access) →
    IsSound s → IsSound (run s target ws accesses).state

-- so does a batch
abbrev pub BatchIsSound : Type 0
BatchIsSound =
    (limit : ℕ) (s : State) (requests : List Request) (accesses : List (ℕ × Access)) →
    IsSound s → IsSound (batch limit s requests accesses).state

-- a new machine is sound
abbrev pub NewIsSound : Type 0
NewIsSound = (g : Layout) → IsSound (new_machine g)

-- a call that is not refused keeps a machine sound: a new process
abbrev pub SpawnIsSound : Type 0
SpawnIsSound =
    (s : State) (pid uid home : ℕ) (allowed : List ℕ) (privileged : Bool) →
    IsSound s → spawn_refusal s pid home allowed ≡ None → IsSound (spawn s pid uid home allowed privileged)

-- so does an area over a new segment
abbrev pub MapIsSound : Type 0
MapIsSound =
    (s : State) (pid address pages : ℕ) (shared : Bool) →
    IsSound s → map_refusal s pid address pages ≡ None → IsSound (map_new s pid address pages shared)

-- so does an area over an existing segment
abbrev pub AttachIsSound : Type 0
AttachIsSound =
    (s : State) (pid address segment offset pages : ℕ) →
    IsSound s → attach_refusal s pid address segment offset pages ≡ None →
    IsSound (attach s pid address segment offset pages)

-- so does a pin
abbrev pub PinIsSound : Type 0
PinIsSound = (s : State) (pid address : ℕ) → IsSound s → pin_refusal s pid address ≡ None → IsSound (pin s pid address)

-- so does the removal of a pin, refused or not
abbrev pub UnpinIsSound : Type 0
UnpinIsSound = (s : State) (pid address : ℕ) → IsSound s → IsSound (unpin s pid address)

-- so does another policy for a range
abbrev pub PolicyIsSound : Type 0
PolicyIsSound =
    (s : State) (pid address len : ℕ) (policy : Policy) → IsSound s → IsSound (set_policy s pid address len policy)

-- so does unmapping a range
abbrev pub UnmapIsSound : Type 0
UnmapIsSound = (s : State) (pid address pages : ℕ) → IsSound s → IsSound (unmap s pid address pages)

-- so does the exit of a process
abbrev pub ExitIsSound : Type 0
ExitIsSound = (s : State) (pid : ℕ) → IsSound s → IsSound (exit s pid)
