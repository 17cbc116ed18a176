use Rattle.std.proofs.Common.{rules, ◌≡◌, Ok, Err, map, ap, sym, ◌∙◌}
use Rattle.nm_requests.specs.Views.{call_of}
use Rattle.nm_steps.specs.Faults.{trace_of}
use Rattle.nm_steps.specs.Plans.{contents_of}
use Rattle.nm_steps.proofs.Utf8.{before_steps, text_of_trace}
use Rattle.nm_trace.proofs.FromBytes.{cut_short, no_memory, no_trace, unread_fails}
use Rattle.nm_trace.proofs.Headlines.{played}
use Rattle.nm_trace.proofs.Told.{writes_of_err}
use Rattle.nm_trace.proofs.running.run_bytes.Goals as goal

pub returns-in_err-trace-clause-runs : goal.returns-in_err-trace-clause-runs
returns-in_err-trace-clause-runs g c =
    let is : c.from_residual.result ≡ Err c.in_err-trace.field-0.0 = search rules in
    no_trace _ c.args.bytes.now (g.W.Write.contents c.args.writer.now) c.in_err-trace.field-0.0 c.from_residual.result
    (unread_fails contents_of (trace_of c.args.bytes.now) c.read_trace.result _ c.in_err-trace.was c.read_trace.ensures.trace)
    (λ k e. (c.read_trace.ensures.allocates (before_steps contents_of (trace_of c.args.bytes.now) c.read_trace.result k c.read_trace.ensures.trace (c.in_err-trace.was ∙ ap Err e))).1)
    is

pub returns-in_default-clause-runs : goal.returns-in_default-clause-runs
returns-in_default-clause-runs g c =
    no_memory _ c.args.bytes.now (g.W.Write.contents c.args.writer.now) (text_of_trace c.args.bytes.now (contents_of c.in_ok-trace.trace) c.in_ok-trace.ensures.trace).1

pub returns-in_err-summary-clause-runs : goal.returns-in_err-summary-clause-runs
returns-in_err-summary-clause-runs g c =
    let old = g.W.Write.contents c.args.writer.now in
    let new = g.W.Write.contents c.play_calls.new.writer in
    let is : c.from_residual-in_err-summary.result ≡ Err c.in_err-summary.field-0.0 = search rules in
    cut_short _ c.args.bytes.now (contents_of c.in_ok-trace.trace) _ _ _ old new c.play_calls.result c.in_err-summary.field-0.0 _
    c.in_ok-trace.ensures.trace c.in-Ok.ensures (ap (map call_of) c.as_slice.ensures.value) c.play_calls.ensures.plays c.in_err-summary.was is

pub returns-clause-runs : goal.returns-clause-runs
returns-clause-runs g c =
    let old = g.W.Write.contents c.args.writer.now in
    let new = g.W.Write.contents c.play_calls.new.writer in (
      Ok (contents_of c.in_ok-trace.trace),
      sym c.in_ok-trace.ensures.trace,
      played (contents_of c.in_ok-trace.trace) _ _ _ old new c.play_calls.result c.in_ok-summary.summary c.in-Ok.ensures (ap (map call_of) c.as_slice.ensures.value) c.in_ok-summary.was c.play_calls.ensures.plays,
      tt,
    )

pub returns-in_err-summary-clause-writes : goal.returns-in_err-summary-clause-writes
returns-in_err-summary-clause-writes g c =
    let is : c.from_residual-in_err-summary.result ≡ Err c.in_err-summary.field-0.0 = search rules in
    writes_of_err _ _ c.in_err-summary.field-0.0 c.play_calls.result c.from_residual-in_err-summary.result c.in_err-summary.was is c.play_calls.ensures.failure
