use Rattle.std.proofs.Common.{take, decimal}
use Rattle.nm_trace.specs.definitions.Report.{each_after_space}
use Rattle.nm_streams.specs.Waiting.{Puts}
use Rattle.nm_trace.proofs.text.push_frames.Given as goal

abbrev pub invariant-loop-frame : goal.invariant-loop-frame
invariant-loop-frame g l = Puts g.W.Write.contents g.W.ReportingWriter.has_failed l.fn.writer l.fn.block l.writer l.block (each_after_space decimal (take l.frame-index l.frames))
