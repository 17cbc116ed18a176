use Rattle.std.proofs.Common.{◌≤◌, ◌-◌, length, take}
use Rattle.hex.specs.Hex.{encode_lower}
use Rattle.nm_streams.specs.Waiting.{Puts}
use Rattle.nm_trace.proofs.text.push_bytes.Given as goal

abbrev pub invariant-loop-at : goal.invariant-loop-at
invariant-loop-at g l = (l.at ≤ length l.bytes) × Puts g.W.Write.contents g.W.ReportingWriter.has_failed l.fn.writer l.fn.block l.writer l.block (encode_lower (take l.at l.bytes))

abbrev pub decreases-loop-at : goal.decreases-loop-at
decreases-loop-at g l = length l.bytes - l.at
