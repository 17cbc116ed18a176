-- Worked examples of taking nodes offline and bringing them online.
use Rattle.std.specs.Prelude.{◌≡◌, ℕ, false, true, List, [], ◌∷◌, map, length, codes, Some, None}
use Rattle.nm_types.specs.declared.errno.Errno.TheVariants.{Ebusy, Enodev, Enomem, Einval}
use Rattle.nm_types.specs.Layout.{Layout}
use Rattle.nm_types.specs.State.{State}
use Rattle.nm_model.specs.definitions.Effect.{new_machine, spawn, map_new, exit, pin, set_online}
use Rattle.nm_model.specs.definitions.Touch.{read, write, Bytes, Refused}
use Rattle.nm_model.specs.examples.{A, B, C, D, E, one_process, wrote, three_pages, attached_by_two, seen_by_two, frame_shown_at}
use Rattle.nm_requests.specs.Calls.{Call, MovePages, MigratePages, Mbind, Offline}
use Rattle.nm_calls.specs.definitions.Answers.{Answer, Refusal, Done, Failed}
use Rattle.nm_calls.specs.definitions.Outcome.{refusal_of, outcome, trail, after_runs}
use Rattle.nm_calls.specs.examples.Calling.{system_in, answer_to, after_call, outline_of}
use Rattle.nm_calls.specs.examples.MbindRows.{MPOL_BIND, narrow}
use Rattle.nm_calls.specs.definitions.Maps.{numa_maps}
use Rattle.nm_model.specs.definitions.Effect.{list_refusal}

-- node 0 has been taken offline
abbrev pub first_offline : State
first_offline = after_call three_pages (Offline 0)

-- its pages are on the other node, and it is not a target
abbrev pub PagesLeaveTheNode : Type 0
PagesLeaveTheNode =
    (answer_to three_pages (Offline 0) ≡ Done)
    × (outline_of first_offline (A ∷ B ∷ C ∷ [])
    ≡ record {
      free = (3 ∷ 0 ∷ 1 ∷ 2 ∷ []) ∷ (7 ∷ []) ∷ [];
      moved = 3;
      failed = 0;
      frames = Some 4 ∷ Some 5 ∷ Some 6 ∷ [];
    })
    × (refusal_of first_offline (MovePages 1 0 (A ∷ []) (0 ∷ []) 2 []) ≡ Some Enodev)

-- two more pages, the first of which takes the last frame
abbrev pub filled_up : State
filled_up = wrote (map_new first_offline 1 D 2 false) 1 D 0x64

-- no frame is taken from an offline node; the last online node stays online; once online again, the node serves frames
abbrev pub NothingIsTakenOffline : Type 0
NothingIsTakenOffline =
    (frame_shown_at filled_up 1 D ≡ Some 7) × ((write filled_up 1 E (0x65 ∷ [])).answer ≡ Refused Enomem)
    × (answer_to filled_up (Offline 1) ≡ Refusal Ebusy) × (list_refusal filled_up 0 ≡ None)
    × (frame_shown_at (wrote (set_online filled_up 0 true) 1 E 0x65) 1 E ≡ Some 3)

-- a page with a pin keeps its node online, and the moves stay
abbrev pub PinnedPageKeepsItsNode : Type 0
PinnedPageKeepsItsNode =
    let pinned = pin three_pages 1 B in
    (answer_to pinned (Offline 0) ≡ Refusal Ebusy)
    × (outline_of (after_call pinned (Offline 0)) (A ∷ B ∷ C ∷ [])
    ≡ record {
      free = (3 ∷ 0 ∷ 2 ∷ []) ∷ (6 ∷ 7 ∷ []) ∷ [];
      moved = 2;
      failed = 1;
      frames = Some 4 ∷ Some 1 ∷ Some 5 ∷ [];
    })
    × ((after_call pinned (Offline 0)).online ≡ 0 ∷ 1 ∷ [])

-- three pages on node 0 of three, the second with a pin; node 1 has one frame
abbrev pub three_on_narrow : State
three_on_narrow =
    let s = map_new (spawn (new_machine narrow) 1 100 0 (0 ∷ 1 ∷ 2 ∷ []) false) 1 A 3 false in
    pin (wrote (wrote (wrote s 1 A 0x61) 1 B 0x62) 1 C 0x63) 1 B

-- what node 1 has no room for goes to node 2, except the page with a pin; also the state between the two passes
abbrev pub PassesGoByDistance : Type 0
PassesGoByDistance =
    let s = after_call three_on_narrow (Offline 0) in
    let between = (after_runs (system_in three_on_narrow) (Offline 0) 1).state in
    (answer_to three_on_narrow (Offline 0) ≡ Refusal Ebusy)
    × (outline_of s (A ∷ B ∷ C ∷ [])
    ≡ record {
      free = (3 ∷ 0 ∷ 2 ∷ []) ∷ [] ∷ (6 ∷ 7 ∷ 8 ∷ []) ∷ [];
      moved = 2;
      failed = 2;
      frames = Some 4 ∷ Some 1 ∷ Some 5 ∷ [];
    })
    × (s.online ≡ 0 ∷ 1 ∷ 2 ∷ []) × (length (trail (system_in three_on_narrow) (Offline 0)) ≡ 3)
    × (between.online ≡ 0 ∷ 1 ∷ 2 ∷ []) × (between.free ≡ (3 ∷ 0 ∷ []) ∷ [] ∷ (5 ∷ 6 ∷ 7 ∷ 8 ∷ []) ∷ [])

-- a page that nobody sees moves with its byte
abbrev pub UnseenPageMoves : Type 0
UnseenPageMoves =
    let s = exit attached_by_two 1 in
    (answer_to s (Offline 0) ≡ Done) × ((after_call s (Offline 0)).free ≡ (1 ∷ 2 ∷ 3 ∷ 0 ∷ []) ∷ (5 ∷ 6 ∷ 7 ∷ []) ∷ [])
    × ((read (after_call s (Offline 0)) 2 0x20000 1).answer ≡ Bytes (0x61 ∷ []))

-- a page moves for all processes that see it; taking a node offline twice is the same as once; a node that does not
-- exist is refused
abbrev pub SharedPageLeavesItsNode : Type 0
SharedPageLeavesItsNode =
    let s = after_call seen_by_two (Offline 0) in
    (answer_to seen_by_two (Offline 0) ≡ Done)
    × (map (λ pid. frame_shown_at s pid 0x20000) (1 ∷ 2 ∷ []) ≡ Some 4 ∷ Some 4 ∷ [])
    × (map (λ pid. (read s pid 0x20000 1).answer) (1 ∷ 2 ∷ []) ≡ Bytes (0x61 ∷ []) ∷ Bytes (0x61 ∷ []) ∷ [])
    × (answer_to s (Offline 0) ≡ Done) × (after_call s (Offline 0) ≡ s)
    × (refusal_of s (Offline 9) ≡ Some Einval) × (list_refusal s 9 ≡ Some Einval)

-- an offline node is left out of the new nodes, and of a policy's nodes
abbrev pub OfflineNodesAreNotKept : Type 0
OfflineNodesAreNotKept =
    let s = after_call three_pages (Offline 1) in
    let bound = Mbind 1 A 4096 MPOL_BIND (0 ∷ 1 ∷ []) 2 in
    (refusal_of s (MigratePages 1 0 (0 ∷ []) (1 ∷ [])) ≡ Some Einval)
    × (refusal_of s (Mbind 1 A 4096 MPOL_BIND (1 ∷ []) 2) ≡ Some Einval) × (answer_to s bound ≡ Failed 0)
    × (numa_maps (after_call s bound) 1
    ≡ codes "00010000 bind:0 anon=1 N0=1 kernelpagesize_kB=4"
    ∷ codes "00011000 default anon=2 N0=2 kernelpagesize_kB=4" ∷ [])

-- three nodes of four frames each in a row: node 2 is nearer to node 1 than node 0 is
abbrev pub three_in_a_row : Layout
three_in_a_row =
    let distances : List (List ℕ) = (10 ∷ 30 ∷ 40 ∷ []) ∷ (30 ∷ 10 ∷ 20 ∷ []) ∷ (40 ∷ 20 ∷ 10 ∷ []) ∷ [] in
    record { sizes = 4 ∷ 4 ∷ 4 ∷ []; distances = distances }

-- the nearest other node comes first
abbrev pub NearestNodeFirst : Type 0
NearestNodeFirst =
    let s = wrote (map_new (spawn (new_machine three_in_a_row) 1 100 1 (0 ∷ 1 ∷ 2 ∷ []) false) 1 A 1 false) 1 A 0x61 in
    frame_shown_at (after_call s (Offline 1)) 1 A ≡ Some 8

-- the last online node stays online, even if no page is on it
abbrev pub LastNodeStays : Type 0
LastNodeStays =
    let s = after_call one_process (Offline 1) in
    (s.online ≡ 0 ∷ []) × (answer_to s (Offline 0) ≡ Refusal Ebusy) × (after_call s (Offline 0) ≡ s)

-- of two segments the second is mapped below the first: pages go by segment and index, not by address
abbrev pub PagesGoBySegment : Type 0
PagesGoBySegment =
    let s = wrote (wrote (map_new (map_new one_process 1 C 1 false) 1 A 1 false) 1 A 0x61) 1 C 0x62 in
    (map (frame_shown_at s 1) (A ∷ C ∷ []) ≡ Some 0 ∷ Some 1 ∷ [])
    × (map (frame_shown_at (after_call s (Offline 0)) 1) (A ∷ C ∷ []) ≡ Some 5 ∷ Some 4 ∷ [])
