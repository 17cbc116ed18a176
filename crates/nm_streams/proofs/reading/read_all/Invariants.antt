use Rattle.std.proofs.Common.{◌≡◌, ◌≤◌, ◌+◌, length, vec_len, ◌-◌, suc}
use Rattle.std.specs.Io.KnownBytes.{Consumes}
use Rattle.nm_streams.proofs.reading.read_all.Given as goal

abbrev pub invariant-loop-buffer : goal.invariant-loop-buffer
invariant-loop-buffer g l = record {
  left : Consumes (g.R.Read.remaining l.fn.reader) (g.R.Read.remaining l.reader) l.bytes.items;
  given : g.R.ReportingReader.gave l.fn.reader l.reader (length l.bytes.items);
  most : length l.bytes.items ≤ l.limit + 16384;
  failed : g.R.ReportingReader.has_failed l.reader ≡ g.R.ReportingReader.has_failed l.fn.reader;
}

abbrev pub decreases-loop-buffer : goal.decreases-loop-buffer
decreases-loop-buffer g l = suc l.limit - vec_len l.bytes
