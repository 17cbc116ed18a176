-- Worked reports on accesses in flight.
use Rattle.std.specs.Prelude.{◌≡◌, [], ◌∷◌, ◌++◌, codes, false}
use Rattle.nm_types.specs.declared.errno.Errno.TheVariants.{Enomem}
use Rattle.nm_model.specs.definitions.Touch.{Read, Write, Bytes, Done, Held, Refused}
use Rattle.nm_requests.specs.Calls.{Spawn, MapPages, WriteBytes, MovePages, FreeList, Pagemap}
use Rattle.nm_steps.specs.Faults.{TraceContents}
use Rattle.nm_trace.specs.definitions.Report.{access_line, access_lines}
use Rattle.nm_trace.specs.definitions.Played.{report_of}

-- lines of step 6
pub record AccessLineRows : Type 0 where
  pub read : access_line 6 1 (Read 1 69632 2) (Bytes (98 ∷ 0 ∷ [])) ≡ codes "6.1 read 6200\n"
  pub write : access_line 6 2 (Write 1 81920 (101 ∷ [])) Done ≡ codes "6.2 write ok\n"
  pub held : access_line 6 0 (Read 1 65536 1) Held ≡ codes "6.0 read held\n"
  pub refused : access_line 6 10 (Write 1 81920 (101 ∷ [])) (Refused Enomem) ≡ codes "6.10 write error ENOMEM\n"
  -- whatever their runs, they are reported in the order of the list
  pub in_the_order_asked :
      access_lines 6 0 ((1, Read 1 65536 1) ∷ (0, Write 1 65536 (101 ∷ [])) ∷ []) (Bytes (97 ∷ []) ∷ Held ∷ [])
      ≡ codes "6.0 read 61\n6.1 write held\n"
  -- a call that is refused has no answers
  pub none_of_a_refused_call : access_lines 6 0 ((0, Read 1 65536 1) ∷ []) [] ≡ []

-- process 1 has five pages, and has written four, which fill node 0. The first moves to node 1. In flight it is read,
-- which is held; the second, which stays, is read; and the fifth is written: its frame is the one after that which the
-- move took
abbrev pub read_while_it_moves : TraceContents
read_while_it_moves = record {
  layout = record { sizes = 4 ∷ 4 ∷ []; distances = (10 ∷ 20 ∷ []) ∷ (20 ∷ 10 ∷ []) ∷ [] };
  run_limit = 16384;
  calls =
      Spawn 1 100 0 (0 ∷ 1 ∷ []) false
      ∷ MapPages 1 65536 5 false
      ∷ WriteBytes 1 65536 (97 ∷ [])
      ∷ WriteBytes 1 69632 (98 ∷ [])
      ∷ WriteBytes 1 73728 (99 ∷ [])
      ∷ WriteBytes 1 77824 (100 ∷ [])
      ∷ MovePages 1 0 (65536 ∷ []) (1 ∷ []) 2 ((0, Read 1 65536 1) ∷ (0, Read 1 69632 1) ∷ (0, Write 1 81920 (101 ∷ [])) ∷ [])
      ∷ Pagemap 1
      ∷ FreeList 0
      ∷ FreeList 1
      ∷ [];
}

-- the report on this trace
abbrev pub ReadWhileItMoves : Type 0
ReadWhileItMoves =
    report_of read_while_it_moves ≡
    codes "0 spawn ok\n1 map segment=0\n2 write ok\n3 write ok\n4 write ok\n5 write ok\n"
    ++ codes "6 move_pages 0: 1\n6.0 read held\n6.1 read 62\n6.2 write ok\n"
    ++ codes "7 pagemap 5: 00010000=4 00011000=1 00012000=2 00013000=3 00014000=5\n8 free 1: 0\n9 free 2: 6 7\n"
