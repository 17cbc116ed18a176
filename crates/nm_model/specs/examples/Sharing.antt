-- Worked examples of pages with several addresses or processes.
use Rattle.std.specs.Prelude.{◌≡◌, pos, negsuc, true, [], ◌∷◌, map, Some}
use Rattle.nm_model.specs.definitions.Seen.{users}
use Rattle.nm_model.specs.definitions.Touch.{read, Bytes}
use Rattle.nm_model.specs.definitions.Run.{RunResult, batch}
use Rattle.nm_model.specs.examples.{limit, two_addresses, seen_by_two, requests, to, frame_shown_at, batch_outline}

-- a page is named by two addresses of one process, which is the only one that sees it
abbrev pub both_addresses : RunResult
both_addresses = batch limit two_addresses (to (0x20000 ∷ 0x30000 ∷ []) 1) []

-- the page moves once, and both addresses show it in its new frame
abbrev pub TwoAddressesAreOneProcess : Type 0
TwoAddressesAreOneProcess =
    (batch_outline both_addresses
    ≡ record {
      answer = 0;
      statuses = pos 1 ∷ pos 1 ∷ [];
      free = (1 ∷ 2 ∷ 3 ∷ 0 ∷ []) ∷ (5 ∷ 6 ∷ 7 ∷ []) ∷ [];
      moved = 1;
      failed = 0;
    })
    × (map (frame_shown_at both_addresses.state 1) (0x20000 ∷ 0x30000 ∷ []) ≡ Some 4 ∷ Some 4 ∷ [])
    × ((read two_addresses 1 0x30000 1).answer ≡ Bytes (0x61 ∷ []))

-- a page that another process sees stays ...
abbrev pub SharedPageStays : Type 0
SharedPageStays =
    (users seen_by_two.processes (record { segment = 0; index = 0 }) ≡ 1 ∷ 2 ∷ [])
    × (batch_outline (batch limit seen_by_two (to (0x20000 ∷ []) 1) [])
    ≡ record {
      answer = 0;
      statuses = negsuc 12 ∷ [];
      free = (1 ∷ 2 ∷ 3 ∷ []) ∷ (4 ∷ 5 ∷ 6 ∷ 7 ∷ []) ∷ [];
      moved = 0;
      failed = 0;
    })

-- ... unless it is on the target already
abbrev pub SharedPageIsOnTarget : Type 0
SharedPageIsOnTarget = (batch limit seen_by_two (to (0x20000 ∷ []) 0) []).statuses ≡ pos 0 ∷ []

-- with MPOL_MF_MOVE_ALL it moves for both
abbrev pub moved_for_both : RunResult
moved_for_both = batch limit seen_by_two (requests true (0x20000 ∷ []) 1) []

-- both see it in its new frame, with its byte
abbrev pub SharedPageMovesForBoth : Type 0
SharedPageMovesForBoth =
    (batch_outline moved_for_both
    ≡ record {
      answer = 0;
      statuses = pos 1 ∷ [];
      free = (1 ∷ 2 ∷ 3 ∷ 0 ∷ []) ∷ (5 ∷ 6 ∷ 7 ∷ []) ∷ [];
      moved = 1;
      failed = 0;
    })
    × (map (λ pid. frame_shown_at moved_for_both.state pid 0x20000) (1 ∷ 2 ∷ []) ≡ Some 4 ∷ Some 4 ∷ [])
    × (map (λ pid. (read moved_for_both.state pid 0x20000 1).answer) (1 ∷ 2 ∷ [])
    ≡ Bytes (0x61 ∷ []) ∷ Bytes (0x61 ∷ []) ∷ [])
