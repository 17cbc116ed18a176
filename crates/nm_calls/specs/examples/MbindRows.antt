-- Worked examples of mbind(2), and of a process's areas as text.
use Rattle.std.specs.Prelude.{◌≡◌, ℕ, ◌+◌, false, true, List, [], ◌∷◌, map, codes, length, Option, Some, None}
use Rattle.nm_types.specs.declared.errno.Errno.TheVariants.{Eperm, Esrch, Eio, Enomem, Efault, Einval}
use Rattle.nm_types.specs.Layout.{Layout}
use Rattle.nm_types.specs.State.{State}
use Rattle.nm_model.specs.definitions.Cut.{Stretch}
use Rattle.nm_model.specs.definitions.Effect.{new_machine, spawn, map_new, attach, pin}
use Rattle.nm_model.specs.definitions.Effect.{map_refusal}
use Rattle.nm_model.specs.definitions.Touch.{read, write, Bytes, Refused}
use Rattle.nm_model.specs.examples.{A, B, C, D, E, three_nodes, one_process, with_second, wrote, three_pages, seen_by_two, frame_shown_at}
use Rattle.nm_requests.specs.Calls.{Call, Mbind, default_limit}
use Rattle.nm_calls.specs.definitions.Answers.{Answer, Refusal, Failed}
use Rattle.nm_calls.specs.examples.Calling.{system_in, outline_of}
use Rattle.nm_calls.specs.definitions.Outcome.{Outcome, outcome, runs_of, after_runs}
use Rattle.nm_calls.specs.definitions.Systems.{SystemState}
use Rattle.nm_calls.specs.definitions.Maps.{set_text, numa_maps}

-- the modes, by their numbers
abbrev pub MPOL_DEFAULT : ℕ
MPOL_DEFAULT = 0

abbrev pub MPOL_PREFERRED : ℕ
MPOL_PREFERRED = 1

abbrev pub MPOL_BIND : ℕ
MPOL_BIND = 2

abbrev pub MPOL_INTERLEAVE : ℕ
MPOL_INTERLEAVE = 3

-- a call of process 1, with an address, a length, a mode, nodes and flags
pub record MbindOf : Type 0 where
  pub addr : ℕ
  pub len : ℕ
  pub mode : ℕ
  pub nodes : List ℕ
  pub flags : ℕ

abbrev pub ask : ℕ → ℕ → ℕ → List ℕ → ℕ → MbindOf
ask addr len mode nodes flags = record { addr = addr; len = len; mode = mode; nodes = nodes; flags = flags }

-- this, as a call of a process
abbrev pub call_by : ℕ → MbindOf → Call
call_by pid a = Mbind pid a.addr a.len a.mode a.nodes a.flags

-- its answer, and the system after it
abbrev pub bound_by : ℕ → State → MbindOf → Outcome
bound_by pid s a = outcome (system_in s) (call_by pid a)

-- the answer to process 1
abbrev pub mbind_answer : State → MbindOf → Answer
mbind_answer s a = (bound_by 1 s a).answer

-- the state after it
abbrev pub after_mbind : State → MbindOf → State
after_mbind s a = (bound_by 1 s a).system.state

-- its runs
abbrev pub runs : State → MbindOf → List Stretch
runs s a = runs_of (system_in s) (call_by 1 a)

-- the state after its first `n` runs
abbrev pub state_after_runs : State → MbindOf → ℕ → State
state_after_runs s a n = (after_runs (system_in s) (call_by 1 a) n).state

-- two pages, the second of which has a pin
abbrev pub second_pinned : State
second_pinned = pin (wrote (wrote (map_new one_process 1 A 2 false) 1 A 0x61) 1 B 0x62) 1 B

-- both are bound to node 1
abbrev pub both_to_1 : ℕ → MbindOf
both_to_1 flags = ask A 8192 MPOL_BIND (1 ∷ []) flags

-- a pinned page stays and is reported; the other has moved, and the policy is set
abbrev pub PinnedPageIsAnError : Type 0
PinnedPageIsAnError =
    let s = after_mbind second_pinned (both_to_1 3) in
    (mbind_answer second_pinned (both_to_1 3) ≡ Refusal Eio)
    × (outline_of s (A ∷ B ∷ [])
    ≡ record {
      free = (2 ∷ 3 ∷ 0 ∷ []) ∷ (5 ∷ 6 ∷ 7 ∷ []) ∷ [];
      moved = 1;
      failed = 1;
      frames = Some 4 ∷ Some 1 ∷ [];
    })
    × (numa_maps s 1 ≡ codes "00010000 bind:1 anon=2 N0=1 N1=1 kernelpagesize_kB=4" ∷ [])

-- with MPOL_MF_STRICT alone nothing changes; without flags the policy is set
abbrev pub StrictAloneRefuses : Type 0
StrictAloneRefuses =
    (mbind_answer second_pinned (both_to_1 1) ≡ Refusal Eio) × (after_mbind second_pinned (both_to_1 1) ≡ second_pinned)
    × (numa_maps second_pinned 1 ≡ codes "00010000 default anon=2 N0=2 kernelpagesize_kB=4" ∷ [])
    × (mbind_answer second_pinned (both_to_1 0) ≡ Failed 0)
    × (numa_maps (after_mbind second_pinned (both_to_1 0)) 1 ≡ codes "00010000 bind:1 anon=2 N0=2 kernelpagesize_kB=4" ∷ [])

-- without MPOL_MF_STRICT a page that stays is no error
abbrev pub StayingIsNoError : Type 0
StayingIsNoError =
    (mbind_answer second_pinned (both_to_1 2) ≡ Failed 0) × ((after_mbind second_pinned (both_to_1 2)).failed ≡ 1)

-- setting the policy of one byte splits an area into three
abbrev pub LinesAreSplit : Type 0
LinesAreSplit =
    numa_maps (after_mbind three_pages (ask B 1 MPOL_PREFERRED (1 ∷ []) 0)) 1
    ≡ codes "00010000 default anon=1 N0=1 kernelpagesize_kB=4"
    ∷ codes "00011000 prefer:1 anon=1 N0=1 kernelpagesize_kB=4"
    ∷ codes "00012000 default anon=1 N0=1 kernelpagesize_kB=4" ∷ []

-- new pages take turns
abbrev pub NewPagesTakeTurns : Type 0
NewPagesTakeTurns =
    let s = after_mbind (map_new one_process 1 A 4 false) (ask A 16384 MPOL_INTERLEAVE (0 ∷ 1 ∷ []) 2) in
    let t = wrote (wrote (wrote (wrote s 1 A 0x61) 1 B 0x62) 1 C 0x63) 1 D 0x64 in
    (map (frame_shown_at t 1) (A ∷ B ∷ C ∷ D ∷ []) ≡ Some 0 ∷ Some 4 ∷ Some 1 ∷ Some 5 ∷ [])
    × (numa_maps t 1 ≡ codes "00010000 interleave:0-1 anon=4 N0=2 N1=2 kernelpagesize_kB=4" ∷ [])

-- new pages go only to the nodes that they are bound to
abbrev pub BoundPagesGoNowhereElse : Type 0
BoundPagesGoNowhereElse =
    let s = after_mbind (map_new one_process 1 A 5 false) (ask A 20480 MPOL_BIND (1 ∷ []) 2) in
    let t = wrote (wrote (wrote (wrote s 1 A 0x61) 1 B 0x62) 1 C 0x63) 1 D 0x64 in
    (map (frame_shown_at t 1) (A ∷ B ∷ C ∷ D ∷ []) ≡ Some 4 ∷ Some 5 ∷ Some 6 ∷ Some 7 ∷ [])
    × ((write t 1 E (0x65 ∷ [])).answer ≡ Refused Enomem) × (t.free ≡ (0 ∷ 1 ∷ 2 ∷ 3 ∷ []) ∷ [] ∷ [])

-- nodes of four frames, one frame and four frames, all equally far apart
abbrev pub narrow : Layout
narrow =
    let distances : List (List ℕ) = (10 ∷ 20 ∷ 20 ∷ []) ∷ (20 ∷ 10 ∷ 20 ∷ []) ∷ (20 ∷ 20 ∷ 10 ∷ []) ∷ [] in
    record { sizes = 4 ∷ 1 ∷ 4 ∷ []; distances = distances }

-- two pages of process 1, on node 0 of these
abbrev pub two_on_narrow : State
two_on_narrow =
    wrote (wrote (map_new (spawn (new_machine narrow) 1 100 0 (0 ∷ 1 ∷ 2 ∷ []) false) 1 A 2 false) 1 A 0x61) 1 B 0x62

-- the pages that the first node has no room for go to the second; also the state between the two passes
abbrev pub SecondPassTakesTheRest : Type 0
SecondPassTakesTheRest =
    let call = ask A 8192 MPOL_BIND (1 ∷ 2 ∷ []) 2 in
    (mbind_answer two_on_narrow call ≡ Failed 0)
    × (outline_of (after_mbind two_on_narrow call) (A ∷ B ∷ [])
    ≡ record {
      free = (2 ∷ 3 ∷ 0 ∷ 1 ∷ []) ∷ [] ∷ (6 ∷ 7 ∷ 8 ∷ []) ∷ [];
      moved = 2;
      failed = 1;
      frames = Some 4 ∷ Some 5 ∷ [];
    })
    × (length (runs two_on_narrow call) ≡ 2)
    × (outline_of (state_after_runs two_on_narrow call 1) (A ∷ B ∷ [])
    ≡ record {
      free = (2 ∷ 3 ∷ 0 ∷ []) ∷ [] ∷ (5 ∷ 6 ∷ 7 ∷ 8 ∷ []) ∷ [];
      moved = 1;
      failed = 1;
      frames = Some 4 ∷ Some 1 ∷ [];
    })

-- three pages on node 0
abbrev pub where_they_are : List (List ℕ)
where_they_are = (3 ∷ []) ∷ (4 ∷ 5 ∷ 6 ∷ 7 ∷ []) ∷ []

-- pages that follow their policy stay
abbrev pub FollowersStay : Type 0
FollowersStay =
    let preferred = ask A 12288 MPOL_PREFERRED (0 ∷ 1 ∷ []) 2 in
    let interleaved = ask A 12288 MPOL_INTERLEAVE (0 ∷ 1 ∷ []) 2 in
    let strict = ask A 4096 MPOL_DEFAULT [] 3 in
    (mbind_answer three_pages preferred ≡ Failed 0) × ((after_mbind three_pages preferred).free ≡ where_they_are)
    × (numa_maps (after_mbind three_pages preferred) 1 ≡ codes "00010000 prefer:0 anon=3 N0=3 kernelpagesize_kB=4" ∷ [])
    × (mbind_answer three_pages interleaved ≡ Failed 0) × ((after_mbind three_pages interleaved).free ≡ where_they_are)
    × (mbind_answer three_pages strict ≡ Failed 0) × ((after_mbind three_pages strict).free ≡ where_they_are)

-- pages that do not follow take turns; here all go to one node
abbrev pub StrayPagesTakeTurns : Type 0
StrayPagesTakeTurns =
    let call = ask A 12288 MPOL_INTERLEAVE (1 ∷ []) 2 in
    (mbind_answer three_pages call ≡ Failed 0)
    × (outline_of (after_mbind three_pages call) (A ∷ B ∷ C ∷ [])
    ≡ record {
      free = (3 ∷ 0 ∷ 1 ∷ 2 ∷ []) ∷ (7 ∷ []) ∷ [];
      moved = 3;
      failed = 0;
      frames = Some 4 ∷ Some 5 ∷ Some 6 ∷ [];
    })

-- a length of 0 changes nothing; and calls that are refused
abbrev pub BindingsAreRefused : Type 0
BindingsAreRefused =
    (mbind_answer three_pages (ask A 16384 MPOL_BIND (1 ∷ []) 0) ≡ Refusal Efault)
    × (mbind_answer three_pages (ask 0x10001 4096 MPOL_BIND (1 ∷ []) 0) ≡ Refusal Einval)
    × (mbind_answer three_pages (ask A 0 MPOL_BIND (1 ∷ []) 2) ≡ Failed 0)
    × (after_mbind three_pages (ask A 0 MPOL_BIND (1 ∷ []) 2) ≡ three_pages)
    × (mbind_answer three_pages (ask A 4096 MPOL_DEFAULT (0 ∷ []) 0) ≡ Refusal Einval)
    × (mbind_answer three_pages (ask A 4096 MPOL_BIND [] 0) ≡ Refusal Einval)
    × (mbind_answer three_pages (ask A 4096 5 [] 0) ≡ Refusal Einval)
    × (mbind_answer three_pages (ask A 4096 5 [] 4) ≡ Refusal Einval)
    × (mbind_answer three_pages (ask A 4096 MPOL_DEFAULT [] 8) ≡ Refusal Einval)
    × (mbind_answer three_pages (ask 0x10001 4096 MPOL_BIND (1 ∷ []) 4) ≡ Refusal Eperm)
    × ((bound_by 77 three_pages (ask 0x10001 4096 MPOL_BIND (1 ∷ []) 8)).answer ≡ Refusal Esrch)

-- one byte of a page counts as the page
abbrev pub LastByteCounts : Type 0
LastByteCounts =
    map (frame_shown_at (after_mbind three_pages (ask A 4097 MPOL_PREFERRED (1 ∷ []) 2)) 1) (A ∷ B ∷ C ∷ [])
    ≡ Some 4 ∷ Some 5 ∷ Some 2 ∷ []

-- three pages from an odd page number on, on node 0 of three
abbrev pub from_b : State
from_b =
    let s = map_new (spawn (new_machine three_nodes) 1 100 0 (0 ∷ 1 ∷ 2 ∷ []) false) 1 B 3 false in
    wrote (wrote (wrote s 1 B 0x61) 1 C 0x62) 1 D 0x63

-- turns go by the index in the segment, and all pages for one node come before those for the next
abbrev pub TurnsGoByIndex : Type 0
TurnsGoByIndex =
    outline_of (after_mbind from_b (ask B 12288 MPOL_INTERLEAVE (1 ∷ 2 ∷ []) 2)) (B ∷ C ∷ D ∷ [])
    ≡ record {
      free = (3 ∷ 0 ∷ 2 ∷ 1 ∷ []) ∷ (6 ∷ 7 ∷ []) ∷ (9 ∷ 10 ∷ 11 ∷ []) ∷ [];
      moved = 3;
      failed = 0;
      frames = Some 4 ∷ Some 8 ∷ Some 5 ∷ [];
    }

-- a page with a pin at two addresses of a process is listed once, and counted once
abbrev pub StrayIsListedOnce : Type 0
StrayIsListedOnce =
    let both = attach (map_new one_process 1 A 1 true) 1 B 0 0 1 in
    let twice = pin (read (wrote both 1 A 0x61) 1 B 1).state 1 A in
    let call = ask A 8192 MPOL_PREFERRED (1 ∷ []) 2 in
    (mbind_answer twice call ≡ Failed 0) × ((after_mbind twice call).failed ≡ 1)
    × (numa_maps (after_mbind twice call) 1
    ≡ codes "00010000 prefer:1 anon=1 N0=1 kernelpagesize_kB=4"
    ∷ codes "00011000 prefer:1 anon=1 N0=1 kernelpagesize_kB=4" ∷ [])

-- process 3 is privileged, and also sees the page
abbrev pub seen_by_three : State
seen_by_three = (read (attach (spawn seen_by_two 3 300 0 (0 ∷ 1 ∷ []) true) 3 0x20000 0 0 1) 3 0x20000 1).state

-- a page that others see stays, and is reported with MPOL_MF_STRICT; with MPOL_MF_MOVE_ALL it moves
abbrev pub SharedPagesMoveWithAll : Type 0
SharedPagesMoveWithAll =
    let all = (bound_by 3 seen_by_three (ask 0x20000 4096 MPOL_BIND (1 ∷ []) 4)).system.state in
    (mbind_answer seen_by_two (ask 0x20000 4096 MPOL_BIND (1 ∷ []) 2) ≡ Failed 0)
    × (mbind_answer seen_by_two (ask 0x20000 4096 MPOL_BIND (1 ∷ []) 3) ≡ Refusal Eio)
    × (numa_maps (after_mbind seen_by_two (ask 0x20000 4096 MPOL_BIND (1 ∷ []) 3)) 1
    ≡ codes "00020000 bind:1 anon=1 mapmax=2 N0=1 kernelpagesize_kB=4" ∷ [])
    × (map (λ pid. frame_shown_at all pid 0x20000) (1 ∷ 2 ∷ 3 ∷ []) ≡ Some 4 ∷ Some 4 ∷ Some 4 ∷ [])

-- two or more consecutive nodes are written as the first and the last
abbrev pub SetsAsText : Type 0
SetsAsText =
    map set_text ((7 ∷ []) ∷ (0 ∷ 2 ∷ []) ∷ (0 ∷ 1 ∷ 3 ∷ []) ∷ (0 ∷ 1 ∷ 2 ∷ 5 ∷ 6 ∷ []) ∷ [])
    ≡ codes "7" ∷ codes "0,2" ∷ codes "0-1,3" ∷ codes "0-2,5-6" ∷ []

-- a page that process 2 also has, at another address
abbrev pub attached_elsewhere : State
attached_elsewhere =
    let one = wrote (map_new (with_second one_process) 1 0x20000 1 true) 1 0x20000 0x61 in
    (read (attach one 2 0x30000 0 0 1) 2 0x30000 1).state

-- both processes are counted
abbrev pub BothProcessesAreCounted : Type 0
BothProcessesAreCounted =
    numa_maps attached_elsewhere 2 ≡ codes "00030000 default anon=1 mapmax=2 N0=1 kernelpagesize_kB=4" ∷ []

-- the last page that an area can have
abbrev pub last : ℕ
last = 140737488351232

-- it can be mapped, shown and read; two pages there are too many, and so are two bytes at its last byte
abbrev pub LastPage : Type 0
LastPage =
    let s = map_new (with_second one_process) 1 last 1 false in
    (map_refusal (with_second one_process) 1 last 1 ≡ None) × (numa_maps s 1 ≡ codes "7ffffffff000 default" ∷ [])
    × (map_refusal s 2 last 2 ≡ Some Einval) × ((read s 1 (last + 4095) 2).answer ≡ Refused Einval)
    × ((read s 1 (last + 4095) 1).answer ≡ Bytes (0 ∷ []))
