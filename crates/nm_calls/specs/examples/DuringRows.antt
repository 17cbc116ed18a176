-- Worked examples of accesses made while pages move.
use Rattle.std.specs.Prelude.{◌≡◌, ℕ, false, pos, List, [], ◌∷◌, Some, None}
use Rattle.nm_types.specs.declared.errno.Errno.TheVariants.{Esrch, Einval, Enomem, Enodev}
use Rattle.nm_types.specs.State.{State}
use Rattle.nm_model.specs.definitions.Status.{code}
use Rattle.nm_model.specs.definitions.Effect.{map_new, attach}
use Rattle.nm_model.specs.definitions.Touch.{Access, Read, Write, Bytes, Done, Held, Refused}
use Rattle.nm_model.specs.examples.{A, B, C, D, E, three_pages, four_of_five, six_pages, shared_page, frame_shown_at}
use Rattle.nm_requests.specs.Calls.{MovePages}
use Rattle.nm_calls.specs.definitions.Answers.{Statuses, Refusal}
use Rattle.nm_calls.specs.definitions.Systems.{SystemState}
use Rattle.nm_calls.specs.definitions.Outcome.{Outcome, outcome}
use Rattle.nm_calls.specs.examples.Calling.{system_in, outline_of}

-- process 1 moves pages of its own, with accesses during its runs
abbrev pub move_with_accesses : State → List ℕ → List ℕ → List (ℕ × Access) → Outcome
move_with_accesses s pages nodes during = outcome (system_in s) (MovePages 1 0 pages nodes 2 during)

-- four pages fill node 0. One of them moves, and cannot be read during its run; the next one can; and a page written for the
-- first time takes the frame after the one reserved for the move, not the one that becomes free
abbrev pub FramesAreReserved : Type 0
FramesAreReserved =
    let o = move_with_accesses four_of_five (A ∷ []) (1 ∷ []) ((0, Read 1 A 1) ∷ (0, Read 1 B 1) ∷ (0, Write 1 E (0x65 ∷ [])) ∷ []) in
    (o.answer ≡ Statuses 0 (pos 1 ∷ []) (Held ∷ Bytes (0x62 ∷ []) ∷ Done ∷ []))
    × (outline_of o.system.state (A ∷ E ∷ [])
    ≡ record { free = (0 ∷ []) ∷ (6 ∷ 7 ∷ []) ∷ []; moved = 1; failed = 0; frames = Some 4 ∷ Some 5 ∷ [] })

-- four pages of process 1 fill node 0, and the run takes the two free frames of node 1: an access finds no frame
abbrev pub AccessFindsNoFrame : Type 0
AccessFindsNoFrame =
    let accesses = (0, Read 1 C 1) ∷ (0, Read 1 A 1) ∷ (0, Write 1 E (0x65 ∷ [])) ∷ [] in
    let o = move_with_accesses (map_new six_pages 1 E 1 false) (A ∷ B ∷ C ∷ D ∷ []) (1 ∷ 1 ∷ 1 ∷ 1 ∷ []) accesses in
    (o.answer ≡ Statuses 2 (pos 1 ∷ pos 1 ∷ code Enomem ∷ code Enomem ∷ []) (Bytes (0x63 ∷ []) ∷ Held ∷ Refused Enomem ∷ []))
    × (outline_of o.system.state (A ∷ B ∷ E ∷ [])
    ≡ record { free = (0 ∷ 1 ∷ []) ∷ [] ∷ []; moved = 2; failed = 2; frames = Some 6 ∷ Some 7 ∷ None ∷ [] })

-- an access through an address that was never touched is held too, and takes no frame
abbrev pub HeldAtEachAddress : Type 0
HeldAtEachAddress =
    let o = move_with_accesses (attach shared_page 1 0x30000 0 0 1) (0x20000 ∷ []) (1 ∷ []) ((0, Read 1 0x30000 1) ∷ []) in
    (o.answer ≡ Statuses 0 (pos 1 ∷ []) (Held ∷ []))
    × (frame_shown_at o.system.state 1 0x20000 ≡ Some 4) × (frame_shown_at o.system.state 1 0x30000 ≡ None)

-- an access that is refused for its process or its bytes is refused even if its page moves
abbrev pub RefusedBeforeHeld : Type 0
RefusedBeforeHeld =
    (move_with_accesses three_pages (A ∷ []) (1 ∷ []) ((0, Read 77 A 1) ∷ (0, Read 1 0x10fff 2) ∷ [])).answer
    ≡ Statuses 0 (pos 1 ∷ []) (Refused Esrch ∷ Refused Einval ∷ [])

-- if the call is refused, no access is made
abbrev pub RefusedCallsMakeNone : Type 0
RefusedCallsMakeNone =
    move_with_accesses three_pages (A ∷ []) (9 ∷ []) ((0, Write 1 B (0x65 ∷ [])) ∷ [])
    ≡ record { answer = Refusal Enodev; system = system_in three_pages }

-- a page moves in the first run and can be read in the second. The answers are in the order of the accesses, and the
-- last access, of a run that is not made, has none
abbrev pub AnsweredInOrder : Type 0
AnsweredInOrder =
    let accesses = (1, Read 1 A 1) ∷ (0, Read 1 A 1) ∷ (1, Read 1 B 1) ∷ (2, Read 1 C 1) ∷ [] in
    (move_with_accesses three_pages (A ∷ B ∷ []) (1 ∷ 0 ∷ []) accesses).answer
    ≡ Statuses 0 (pos 1 ∷ pos 0 ∷ []) (Bytes (0x61 ∷ []) ∷ Held ∷ Bytes (0x62 ∷ []) ∷ [])

-- with one entry in each run, the frame that the first run left serves an access in the second
abbrev pub LimitMakesRuns : Type 0
LimitMakesRuns =
    let y : SystemState = record { state = four_of_five; run_limit = 1 } in
    let o = outcome y (MovePages 1 0 (A ∷ B ∷ []) (1 ∷ 1 ∷ []) 2 ((1, Write 1 E (0x65 ∷ [])) ∷ [])) in
    (o.answer ≡ Statuses 0 (pos 1 ∷ pos 1 ∷ []) (Done ∷ []))
    × (outline_of o.system.state (A ∷ B ∷ E ∷ [])
    ≡ record { free = (1 ∷ []) ∷ (6 ∷ 7 ∷ []) ∷ []; moved = 2; failed = 0; frames = Some 4 ∷ Some 5 ∷ Some 0 ∷ [] })
