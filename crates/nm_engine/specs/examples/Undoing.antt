-- Worked examples of undoing touches.
use Rattle.std.specs.Prelude.{◌≡◌, true, false, List, [], ◌∷◌, Some, None}
use Rattle.nm_types.specs.State.{State}
use Rattle.nm_engine.specs.declared.prepared_run.undo.Undo.{Undo}
use Rattle.nm_model.specs.definitions.Touch.{read}
use Rattle.nm_model.specs.definitions.Effect.{map_new}
use Rattle.nm_model.specs.examples.{A, B, one_process, wrote, attached_by_two, seen_by_two}
use Rattle.nm_engine.specs.definitions.Undo.{all_undone, undo_of}

-- two private pages that are not yet touched
abbrev pub untouched_pages : State
untouched_pages = map_new one_process 1 A 2 false

-- the first is read, then written; then the second is written
abbrev pub touched_pages : State
touched_pages = wrote (wrote (read untouched_pages 1 A 1).state 1 A 0x61) 1 B 0x62

-- how to undo these three touches, which found nothing, the page of zeros, and nothing
abbrev pub three_undos : List Undo
three_undos =
    record { pid = 1; vpn = 16; zero = false; given = None }
    ∷ record { pid = 1; vpn = 16; zero = true; given = Some (record { segment = 0; index = 0 }, 0) }
    ∷ record { pid = 1; vpn = 17; zero = false; given = Some (record { segment = 0; index = 1 }, 1) } ∷ []

-- the frames are back at the front of their node's list, in order
abbrev pub TouchesAreTakenBack : Type 0
TouchesAreTakenBack =
    (touched_pages.free ≡ (2 ∷ 3 ∷ []) ∷ (4 ∷ 5 ∷ 6 ∷ 7 ∷ []) ∷ []) × (all_undone touched_pages three_undos ≡ untouched_pages)

-- a page that another process sees keeps its frame
abbrev pub SharedPageKeepsItsFrame : Type 0
SharedPageKeepsItsFrame =
    (undo_of 2 32 (record { segment = 0; index = 0 }) None (Some 0) (Some 0)
    ≡ Some (record { pid = 2; vpn = 32; zero = false; given = None }))
    × (all_undone seen_by_two (record { pid = 2; vpn = 32; zero = false; given = None } ∷ []) ≡ attached_by_two)
