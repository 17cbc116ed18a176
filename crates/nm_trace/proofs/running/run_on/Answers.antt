use Rattle.std.proofs.Common.{rules, ◌≡◌, Err}
use Rattle.nm_streams.proofs.Known.{appends_none}
use Rattle.nm_trace.proofs.FromBytes.{gives_all}
use Rattle.nm_trace.proofs.Told.{unwritten}
use Rattle.nm_trace.proofs.running.run_on.Goals as goal

pub returns-in_err-bytes-clause-runs : goal.returns-in_err-bytes-clause-runs
returns-in_err-bytes-clause-runs g c =
    let is : c.from_residual.result ≡ Err c.in_err-bytes.field-0.0 = search rules in
    (Err c.in_err-bytes.field-0.0, c.in_err-bytes.ensures.trace, (is, appends_none (g.W.Write.contents c.args.writer.now)), tt)

pub returns-clause-runs : goal.returns-clause-runs
returns-clause-runs g c =
    let run = c.run_bytes.ensures.runs in (
      run.0,
      gives_all (g.R.Read.remaining c.args.reader.now) _ _ (g.R.ReportingReader.gave c.args.reader.now c.read_bytes.new.reader) c.in_ok-bytes.bytes.items c.as_slice.result.now run.0
          c.in_ok-bytes.ensures.bytes c.in_ok-bytes.ensures.within c.in_ok-bytes.ensures.given c.in_ok-bytes.ensures.kept c.as_slice.ensures.value run.1,
      run.2,
      run.3,
    )

pub returns-in_err-bytes-clause-writes : goal.returns-in_err-bytes-clause-writes
returns-in_err-bytes-clause-writes g c =
    let is : c.from_residual.result ≡ Err c.in_err-bytes.field-0.0 = search rules in
    unwritten _ c.in_err-bytes.field-0.0 c.from_residual.result is c.in_err-bytes.ensures.fault
