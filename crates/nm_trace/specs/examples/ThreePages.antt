-- A worked report.
use Rattle.std.specs.Prelude.{◌≡◌, [], ◌∷◌, ◌++◌, codes, false}
use Rattle.nm_requests.specs.Calls.{Spawn, MapPages, ReadBytes, WriteBytes, MovePages, FreeList, Pagemap}
use Rattle.nm_steps.specs.Faults.{TraceContents}
use Rattle.nm_trace.specs.definitions.Played.{report_of}

-- three pages of a process, written on node 0, moved to node 1 and read there
abbrev pub three_pages_trace : TraceContents
three_pages_trace = record {
  layout = record { sizes = 4 ∷ 4 ∷ []; distances = (10 ∷ 20 ∷ []) ∷ (20 ∷ 10 ∷ []) ∷ [] };
  run_limit = 16384;
  calls =
      Spawn 1 100 0 (0 ∷ 1 ∷ []) false
      ∷ MapPages 1 65536 3 false
      ∷ WriteBytes 1 65536 (97 ∷ [])
      ∷ WriteBytes 1 69632 (98 ∷ [])
      ∷ WriteBytes 1 73728 (99 ∷ [])
      ∷ MovePages 1 0 (65536 ∷ 69632 ∷ 73728 ∷ []) (1 ∷ 1 ∷ 1 ∷ []) 2 []
      ∷ FreeList 0
      ∷ FreeList 1
      ∷ Pagemap 1
      ∷ ReadBytes 1 69632 2
      ∷ [];
}

-- the report on this trace
abbrev pub ThreePagesReport : Type 0
ThreePagesReport =
    report_of three_pages_trace ≡
    codes "0 spawn ok\n1 map segment=0\n2 write ok\n3 write ok\n4 write ok\n5 move_pages 0: 1 1 1\n"
    ++ codes "6 free 4: 3 0 1 2\n7 free 1: 7\n8 pagemap 3: 00010000=4 00011000=5 00012000=6\n9 read 6200\n"
