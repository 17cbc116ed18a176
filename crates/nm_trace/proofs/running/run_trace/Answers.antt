use Rattle.std.proofs.Common.{rules, ◌≡◌, Err}
use Rattle.nm_trace.proofs.FromBytes.{ended, handed_on}
use Rattle.nm_trace.proofs.running.run_trace.Goals as goal

pub returns-in_err-played-clause-runs : goal.returns-in_err-played-clause-runs
returns-in_err-played-clause-runs g c =
    let run = c.run_on.ensures.runs in
    let is : c.from_residual.result ≡ Err c.in_err-played.field-0.0 = search rules in
    (run.0, run.1, handed_on _ _ run.0 _ _ c.in_err-played.field-0.0 c.run_on.result c.from_residual.result c.in_err-played.was is run.2)

pub returns-clause-runs : goal.returns-clause-runs
returns-clause-runs g c =
    let run = c.run_on.ensures.runs in
    (run.0, run.1, ended _ _ run.0 _ _ c.in_ok-played.played _ c.run_on.result c.in_ok-played.was (λ plan h. (c.in_ok-played.played.system, h)) run.2)
