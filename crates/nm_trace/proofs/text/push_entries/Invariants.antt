use Rattle.std.proofs.Common.{map, take}
use Rattle.nm_trace.specs.definitions.Report.{each_after_space, entry_text}
use Rattle.nm_streams.specs.Waiting.{Puts}
use Rattle.nm_trace.proofs.text.push_entries.Given as goal

abbrev pub invariant-loop-entry : goal.invariant-loop-entry
invariant-loop-entry g l = Puts g.W.Write.contents g.W.ReportingWriter.has_failed l.fn.writer l.fn.block l.writer l.block (each_after_space entry_text (map (λ e. (e.vpn, e.frame)) (take l.entry-index l.entries)))
