use Rattle.std.proofs.Common.{take}
use Rattle.std.specs.Fmt.{signed_decimal}
use Rattle.nm_trace.specs.definitions.Report.{each_after_space}
use Rattle.nm_streams.specs.Waiting.{Puts}
use Rattle.nm_trace.proofs.text.push_statuses.Given as goal

abbrev pub invariant-loop-status : goal.invariant-loop-status
invariant-loop-status g l = Puts g.W.Write.contents g.W.ReportingWriter.has_failed l.fn.writer l.fn.block l.writer l.block (each_after_space signed_decimal (take l.status-index l.statuses))
