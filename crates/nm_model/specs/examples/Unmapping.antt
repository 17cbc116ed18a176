-- Worked examples of accesses in flight, of pins, and of areas and processes that go away.
use Rattle.nm_model.specs.definitions.Status.{code}
use Rattle.std.specs.Prelude.{◌≡◌, pos, [], ◌∷◌, map, Some, None, negsuc, false}
use Rattle.nm_types.specs.declared.errno.Errno.TheVariants.{Esrch, Efault, Ebusy, Einval, Enoent}
use Rattle.nm_types.specs.State.{State}
use Rattle.nm_model.specs.definitions.Touch.{read, Read, Write, Bytes, Done, Held, Refused}
use Rattle.nm_model.specs.definitions.Run.{RunResult, batch}
use Rattle.nm_model.specs.definitions.Effect.{pin, unpin, unmap, exit, map_new}
use Rattle.nm_model.specs.definitions.Effect.{pin_refusal, unpin_refusal, unmap_refusal, exit_refusal}
use Rattle.nm_model.specs.examples.{A, B, C, D, E, limit, three_pages, attached_by_two, four_of_five, to, frame_shown_at, batch_outline, one_process, wrote}

-- while a page moves, a read of it is held, and other pages are read and written; the frame that it leaves is not free
-- yet
abbrev pub reads_while_one_moves : RunResult
reads_while_one_moves =
    batch limit four_of_five (to (A ∷ []) 1) ((0, Read 1 A 1) ∷ (0, Read 1 B 1) ∷ (0, Write 1 E (0x65 ∷ [])) ∷ [])

-- the new page takes the frame after the one that the move took
abbrev pub OnlyTheMovingPageIsHeld : Type 0
OnlyTheMovingPageIsHeld =
    (batch_outline reads_while_one_moves
    ≡ record { answer = 0; statuses = pos 1 ∷ []; free = (0 ∷ []) ∷ (6 ∷ 7 ∷ []) ∷ []; moved = 1; failed = 0 })
    × (reads_while_one_moves.answers ≡ (Held ∷ Bytes (0x62 ∷ []) ∷ Done ∷ []) ∷ [])
    × (map (frame_shown_at reads_while_one_moves.state 1) (A ∷ B ∷ C ∷ D ∷ E ∷ [])
    ≡ Some 4 ∷ Some 1 ∷ Some 2 ∷ Some 3 ∷ Some 5 ∷ [])

-- an access waits for the pages of its own run alone: under a limit of 1 two pages move in two runs, and the first is
-- read while the second moves
abbrev pub OnlyTheRunsOwnPagesAreHeld : Type 0
OnlyTheRunsOwnPagesAreHeld =
    ((batch limit four_of_five (to (A ∷ B ∷ []) 1) ((0, Read 1 A 1) ∷ (0, Read 1 B 1) ∷ [])).answers
    ≡ (Held ∷ Held ∷ []) ∷ [])
    × ((batch 1 four_of_five (to (A ∷ B ∷ []) 1) ((1, Read 1 A 1) ∷ (1, Read 1 B 1) ∷ [])).answers
    ≡ [] ∷ (Bytes (0x61 ∷ []) ∷ Held ∷ []) ∷ [])

-- of three private pages the first was read, the second not touched, and the third written and pinned
abbrev pub one_of_each : State
one_of_each = pin (wrote (read (map_new one_process 1 A 3 false) 1 A 1).state 1 C 0x61) 1 C

-- no area, the page of zeros, nothing yet, and a pin; but a pinned page may be on the target already
abbrev pub EachHasItsStatus : Type 0
EachHasItsStatus =
    (batch_outline (batch limit one_of_each (to (0x50000 ∷ A ∷ B ∷ C ∷ []) 1) [])
    ≡ record {
      answer = 1;
      statuses = code Efault ∷ code Efault ∷ code Enoent ∷ code Ebusy ∷ [];
      free = (1 ∷ 2 ∷ 3 ∷ []) ∷ (4 ∷ 5 ∷ 6 ∷ 7 ∷ []) ∷ [];
      moved = 0;
      failed = 1;
    })
    × ((batch limit one_of_each (to (C ∷ []) 0) []).statuses ≡ pos 0 ∷ [])
    × (map code (Efault ∷ Enoent ∷ Ebusy ∷ []) ≡ negsuc 13 ∷ negsuc 1 ∷ negsuc 15 ∷ [])

-- three pages, the second of which has a pin
abbrev pub second_page_pinned : State
second_page_pinned = pin three_pages 1 B

-- an area cannot be unmapped while a page of it has a pin; a page without pins cannot be unpinned
abbrev pub PinnedPageKeepsItsArea : Type 0
PinnedPageKeepsItsArea =
    (pin_refusal three_pages 1 B ≡ None)
    × (unmap_refusal second_page_pinned 1 A 3 ≡ Some Ebusy)
    × (unpin_refusal second_page_pinned 1 B ≡ None)
    × (unpin second_page_pinned 1 B ≡ three_pages) × (unpin_refusal three_pages 1 B ≡ Some Einval)

-- process 1 has unmapped its three pages
abbrev pub after_unmapping : State
after_unmapping = unmap three_pages 1 A 3

-- it has no bytes and no frames there: the frames are free, in the order of the addresses
abbrev pub UnmappedPagesAreFree : Type 0
UnmappedPagesAreFree =
    (unmap_refusal three_pages 1 A 3 ≡ None) × (after_unmapping.free ≡ (3 ∷ 0 ∷ 1 ∷ 2 ∷ []) ∷ (4 ∷ 5 ∷ 6 ∷ 7 ∷ []) ∷ [])
    × ((read after_unmapping 1 A 1).answer ≡ Refused Efault) × (exit_refusal after_unmapping 1 ≡ None)
    × ((read (exit after_unmapping 1) 1 A 1).answer ≡ Refused Esrch)

-- process 1 exits, and process 2 has the shared page in an area without having touched it
abbrev pub first_gone : State
first_gone = exit attached_by_two 1

-- a page keeps its frame as long as an area covers it, touched or not, and loses it with the last
abbrev pub LastAreaFreesThePage : Type 0
LastAreaFreesThePage =
    (first_gone.free ≡ (1 ∷ 2 ∷ 3 ∷ []) ∷ (4 ∷ 5 ∷ 6 ∷ 7 ∷ []) ∷ [])
    × ((read first_gone 2 0x20000 1).answer ≡ Bytes (0x61 ∷ []))
    × ((exit (read first_gone 2 0x20000 1).state 2).free ≡ (1 ∷ 2 ∷ 3 ∷ 0 ∷ []) ∷ (4 ∷ 5 ∷ 6 ∷ 7 ∷ []) ∷ [])
