use Rattle.std.proofs.Common.{◌≡◌, ◌≤◌, ◌||◌, false, length, map, take}
use Rattle.nm_requests.specs.Views.{call_of}
use Rattle.nm_trace.specs.definitions.Report.{report_from, state_after}
use Rattle.nm_streams.specs.Waiting.{Stands, block_broken, block_room, block_waiting}
use Rattle.nm_trace.proofs.playing.play_calls.Given as goal

abbrev pub invariant-loop-k : goal.invariant-loop-k
invariant-loop-k g l = record {
  made : l.system ≡ state_after l.fn.system (take l.k (map call_of l.calls));
  whole : block_broken l.block ≡ false;
  stands : Stands (g.W.Write.contents l.fn.writer) (g.W.Write.contents l.writer) (block_broken l.block) (block_waiting l.block) (report_from 0 l.fn.system (take l.k (map call_of l.calls)));
  room : block_room l.block ≡ 65536;
  few : length (block_waiting l.block) ≤ 65536;
  failed : g.W.ReportingWriter.has_failed l.writer ≡ (block_broken l.block || g.W.ReportingWriter.has_failed l.fn.writer);
}
