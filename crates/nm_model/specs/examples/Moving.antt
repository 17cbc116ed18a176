-- Worked examples of batches.
use Rattle.std.specs.Prelude.{◌≡◌, pos, negsuc, [], ◌∷◌, ◌++◌, map, Some}
use Rattle.nm_model.specs.definitions.Touch.{read, Bytes}
use Rattle.nm_model.specs.definitions.Run.{RunResult, batch}
use Rattle.nm_model.specs.examples.{A, B, C, D, E, limit, three_pages, six_pages, seven_pages, to, frame_shown_at, batch_outline}

-- three pages go to the other node ...
abbrev pub three_moved : RunResult
three_moved = batch limit three_pages (to (A ∷ B ∷ C ∷ []) 1) []

-- their old frames are free at the end, in the order of the moves
abbrev pub ThreePagesMove : Type 0
ThreePagesMove =
    (batch_outline three_moved
    ≡ record {
      answer = 0;
      statuses = pos 1 ∷ pos 1 ∷ pos 1 ∷ [];
      free = (3 ∷ 0 ∷ 1 ∷ 2 ∷ []) ∷ (7 ∷ []) ∷ [];
      moved = 3;
      failed = 0;
    })
    × (map (frame_shown_at three_moved.state 1) (A ∷ B ∷ C ∷ []) ≡ Some 4 ∷ Some 5 ∷ Some 6 ∷ [])

-- ... and read as before
abbrev pub MovedPageReads : Type 0
MovedPageReads = (read three_moved.state 1 B 2).answer ≡ Bytes (0x62 ∷ 0x00 ∷ [])

-- a batch without requests has no runs
abbrev pub EmptyBatchDoesNothing : Type 0
EmptyBatchDoesNothing = batch limit three_pages [] [] ≡ record { state = three_pages; statuses = []; answers = [] }

-- requests for two addresses of one page: it moves once
abbrev pub one_page_twice : RunResult
one_page_twice = batch limit three_pages (to (A ∷ 0x10fff ∷ []) 1) []

-- both requests have the status of the move
abbrev pub OnePageTwiceMovesOnce : Type 0
OnePageTwiceMovesOnce =
    (batch_outline one_page_twice
    ≡ record {
      answer = 0;
      statuses = pos 1 ∷ pos 1 ∷ [];
      free = (3 ∷ 0 ∷ []) ∷ (5 ∷ 6 ∷ 7 ∷ []) ∷ [];
      moved = 1;
      failed = 0;
    })
    × (frame_shown_at one_page_twice.state 1 A ≡ Some 4)

-- two frames are free for four pages; the frames left become free only after the run
abbrev pub shortage_of_frames : RunResult
shortage_of_frames = batch limit six_pages (to (A ∷ B ∷ C ∷ D ∷ []) 1) []

-- two pages move, and two stay for lack of a frame
abbrev pub ShortageStopsTwoOfFour : Type 0
ShortageStopsTwoOfFour =
    (batch_outline shortage_of_frames
    ≡ record {
      answer = 2;
      statuses = pos 1 ∷ pos 1 ∷ negsuc 11 ∷ negsuc 11 ∷ [];
      free = (0 ∷ 1 ∷ []) ∷ [] ∷ [];
      moved = 2;
      failed = 2;
    })
    × (map (frame_shown_at shortage_of_frames.state 1) (A ∷ B ∷ C ∷ D ∷ []) ≡ Some 6 ∷ Some 7 ∷ Some 2 ∷ Some 3 ∷ [])

-- one page goes to a node, and another comes back into its frame
abbrev pub there_and_back : RunResult
there_and_back = batch limit seven_pages (to (A ∷ []) 1 ++ to (E ∷ []) 0) []

-- the second run takes the frame that the first left
abbrev pub LaterRunTakesFrameOfEarlier : Type 0
LaterRunTakesFrameOfEarlier =
    (batch_outline there_and_back
    ≡ record { answer = 0; statuses = pos 1 ∷ pos 0 ∷ []; free = [] ∷ (4 ∷ []) ∷ []; moved = 2; failed = 0 })
    × (map (frame_shown_at there_and_back.state 1) (A ∷ E ∷ []) ≡ Some 7 ∷ Some 0 ∷ [])

-- in the other order the first run finds no free frame
abbrev pub back_and_there : RunResult
back_and_there = batch limit seven_pages (to (E ∷ []) 0 ++ to (A ∷ []) 1) []

-- the frame that the second run leaves comes too late for the first
abbrev pub EarlierRunFindsNone : Type 0
EarlierRunFindsNone =
    (batch_outline back_and_there
    ≡ record { answer = 1; statuses = negsuc 11 ∷ pos 1 ∷ []; free = (0 ∷ []) ∷ [] ∷ []; moved = 1; failed = 1 })
    × (map (frame_shown_at back_and_there.state 1) (A ∷ E ∷ []) ≡ Some 7 ∷ Some 4 ∷ [])

-- one page goes to a node and, in the next run of the batch, home again
abbrev pub home_again : RunResult
home_again = batch limit three_pages (to (A ∷ []) 1 ++ to (A ∷ []) 0) []

-- it comes back to a different frame
abbrev pub PageGoesAndComesHome : Type 0
PageGoesAndComesHome =
    (batch_outline home_again
    ≡ record {
      answer = 0;
      statuses = pos 1 ∷ pos 0 ∷ [];
      free = (0 ∷ []) ∷ (5 ∷ 6 ∷ 7 ∷ 4 ∷ []) ∷ [];
      moved = 2;
      failed = 0;
    })
    × (frame_shown_at home_again.state 1 A ≡ Some 3)
