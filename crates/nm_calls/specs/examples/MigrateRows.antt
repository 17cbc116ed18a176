-- Worked examples of migrate_pages(2).
use Rattle.std.specs.Prelude.{◌≡◌, ℕ, false, true, List, [], ◌∷◌, map, length, slice_index_or, Option, Some}
use Rattle.nm_types.specs.declared.errno.Errno.TheVariants.{Eperm, Esrch, Einval}
use Rattle.nm_types.specs.Layout.{Layout}
use Rattle.nm_types.specs.State.{State}
use Rattle.nm_model.specs.definitions.Effect.{new_machine, spawn, map_new, pin}
use Rattle.nm_model.specs.examples.{A, B, C, one_process, with_second, wrote, three_pages, two_addresses, six_pages, seen_by_two, on_two_of_three, frame_shown_at}
use Rattle.nm_requests.specs.Calls.{default_limit, Call, MigratePages}
use Rattle.nm_calls.specs.definitions.Systems.{SystemState}
use Rattle.nm_calls.specs.definitions.Answers.{Answer, Failed}
use Rattle.nm_calls.specs.examples.Calling.{system_within, system_in, answer_to, after_call, outline_of}
use Rattle.nm_calls.specs.definitions.Outcome.{refusal_of, outcome, trail}

-- pages on nodes 0 and 1 go to nodes 1 and 2: the page on node 1 goes first, and no page goes on to node 2 through node
-- 1
abbrev pub EachPageGoesOnce : Type 0
EachPageGoesOnce =
    let call = MigratePages 1 0 (0 ∷ 1 ∷ []) (1 ∷ 2 ∷ []) in
    (answer_to on_two_of_three call ≡ Failed 0)
    × (outline_of (after_call on_two_of_three call) (A ∷ B ∷ [])
    ≡ record {
      free = (2 ∷ 3 ∷ 1 ∷ 0 ∷ []) ∷ (6 ∷ 7 ∷ 4 ∷ []) ∷ (9 ∷ 10 ∷ 11 ∷ []) ∷ [];
      moved = 3;
      failed = 0;
      frames = Some 5 ∷ Some 8 ∷ [];
    })

-- the state between its two runs
abbrev pub HalfWay : Type 0
HalfWay =
    let states = trail (system_in on_two_of_three) (MigratePages 1 0 (0 ∷ 1 ∷ []) (1 ∷ 2 ∷ [])) in
    (length states ≡ 3)
    × (outline_of (slice_index_or states 1 on_two_of_three) (A ∷ B ∷ [])
    ≡ record {
      free = (2 ∷ 3 ∷ 1 ∷ []) ∷ (5 ∷ 6 ∷ 7 ∷ 4 ∷ []) ∷ (9 ∷ 10 ∷ 11 ∷ []) ∷ [];
      moved = 2;
      failed = 0;
      frames = Some 0 ∷ Some 8 ∷ [];
    })

-- the new node has room for two of four pages
abbrev pub TwoOfFourGo : Type 0
TwoOfFourGo =
    let call = MigratePages 1 0 (0 ∷ []) (1 ∷ []) in
    (answer_to six_pages call ≡ Failed 2)
    × (outline_of (after_call six_pages call) (A ∷ B ∷ [])
    ≡ record { free = (0 ∷ 1 ∷ []) ∷ [] ∷ []; moved = 2; failed = 2; frames = Some 6 ∷ Some 7 ∷ [] })

-- process 3 is privileged
abbrev pub with_third : State → State
with_third s = spawn s 3 300 0 (0 ∷ 1 ∷ []) true

-- a page that others see stays, and is no failure; a privileged caller moves it
abbrev pub SharedPageGoesByPrivilege : Type 0
SharedPageGoesByPrivilege =
    let call = MigratePages 1 0 (0 ∷ []) (1 ∷ []) in
    let by_third = MigratePages 3 1 (0 ∷ []) (1 ∷ []) in
    let there = after_call (with_third seen_by_two) by_third in
    (answer_to seen_by_two call ≡ Failed 0) × (after_call seen_by_two call ≡ seen_by_two)
    × (answer_to (with_third seen_by_two) by_third ≡ Failed 0)
    × (map (λ pid. frame_shown_at there pid 0x20000) (1 ∷ 2 ∷ []) ≡ Some 4 ∷ Some 4 ∷ [])

-- process 4 may use node 0 only
abbrev pub four_processes : State
four_processes = spawn (with_third (with_second one_process)) 4 400 0 (0 ∷ []) false

-- the first refusal in order; a privileged caller may name a node that the process may not use, but not only such nodes
abbrev pub MigrationsAreRefused : Type 0
MigrationsAreRefused =
    let why = λ (call : Call). refusal_of four_processes call in
    (why (MigratePages 77 0 (5 ∷ []) (1 ∷ [])) ≡ Some Esrch)
    × (why (MigratePages 1 0 (0 ∷ 5 ∷ []) (1 ∷ [])) ≡ Some Einval)
    × (why (MigratePages 1 77 (0 ∷ 5 ∷ []) (1 ∷ [])) ≡ Some Einval)
    × (why (MigratePages 1 77 (0 ∷ []) (1 ∷ [])) ≡ Some Esrch)
    × (why (MigratePages 2 1 (0 ∷ []) (1 ∷ [])) ≡ Some Eperm)
    × (why (MigratePages 4 0 (0 ∷ []) (1 ∷ [])) ≡ Some Eperm)
    × (why (MigratePages 4 0 (0 ∷ []) (0 ∷ 1 ∷ [])) ≡ Some Eperm)
    × (why (MigratePages 3 4 (0 ∷ []) (1 ∷ [])) ≡ Some Einval)
    × (answer_to four_processes (MigratePages 3 4 (0 ∷ []) (0 ∷ 1 ∷ [])) ≡ Failed 0)
    × (why (MigratePages 1 0 (0 ∷ []) []) ≡ Some Einval)

-- from an empty set, and from a set to itself
abbrev pub NothingMigrates : Type 0
NothingMigrates =
    (answer_to three_pages (MigratePages 1 0 [] (1 ∷ [])) ≡ Failed 0)
    × (after_call three_pages (MigratePages 1 0 [] (1 ∷ [])) ≡ three_pages)
    × (answer_to three_pages (MigratePages 1 0 (0 ∷ 1 ∷ []) (0 ∷ 1 ∷ [])) ≡ Failed 0)
    × (after_call three_pages (MigratePages 1 0 (0 ∷ 1 ∷ []) (0 ∷ 1 ∷ [])) ≡ three_pages)

-- four nodes of two frames each, all equally far apart
abbrev pub four_nodes : Layout
four_nodes =
    let distances : List (List ℕ) =
    (10 ∷ 20 ∷ 20 ∷ 20 ∷ []) ∷ (20 ∷ 10 ∷ 20 ∷ 20 ∷ []) ∷ (20 ∷ 20 ∷ 10 ∷ 20 ∷ []) ∷ (20 ∷ 20 ∷ 20 ∷ 10 ∷ []) ∷ [] in
    record { sizes = 2 ∷ 2 ∷ 2 ∷ 2 ∷ []; distances = distances }

-- pages on nodes 0 and 1, with node 3 offline
abbrev pub without_last : State
without_last =
    let s = map_new (spawn (new_machine four_nodes) 1 100 0 (0 ∷ 1 ∷ 2 ∷ 3 ∷ []) false) 1 A 3 false in
    record (wrote (wrote (wrote s 1 A 0x61) 1 B 0x62) 1 C 0x63) { online = 0 ∷ 1 ∷ 2 ∷ [] }

-- the sizes of the sets are compared after the new set is reduced to its online nodes: two and two, so node 1 is
-- emptied
abbrev pub SizesOfWhatIsKept : Type 0
SizesOfWhatIsKept =
    let call = MigratePages 1 0 (0 ∷ 1 ∷ []) (1 ∷ 2 ∷ 3 ∷ []) in
    (answer_to without_last call ≡ Failed 0)
    × (map (frame_shown_at (after_call without_last call) 1) (A ∷ B ∷ C ∷ []) ≡ Some 3 ∷ Some 2 ∷ Some 4 ∷ [])

-- a page at two addresses is listed once: it moves once, and fails once if it has a pin
abbrev pub PageIsListedOnce : Type 0
PageIsListedOnce =
    let call = MigratePages 1 0 (0 ∷ []) (1 ∷ []) in
    let pinned = pin two_addresses 1 0x30000 in
    (outline_of (after_call two_addresses call) (0x20000 ∷ 0x30000 ∷ [])
    ≡ record {
      free = (1 ∷ 2 ∷ 3 ∷ 0 ∷ []) ∷ (5 ∷ 6 ∷ 7 ∷ []) ∷ [];
      moved = 1;
      failed = 0;
      frames = Some 4 ∷ Some 4 ∷ [];
    })
    × (answer_to pinned call ≡ Failed 1) × ((after_call pinned call).failed ≡ 1)

-- a limit of two cuts the run of three pages, and frees the frames of the first two before the third moves
abbrev pub RunsHaveALimit : Type 0
RunsHaveALimit =
    let states = trail (system_within 2 three_pages) (MigratePages 1 0 (0 ∷ []) (1 ∷ [])) in
    (length states ≡ 3) × ((slice_index_or states 1 three_pages).free ≡ (3 ∷ 0 ∷ 1 ∷ []) ∷ (6 ∷ 7 ∷ []) ∷ [])
