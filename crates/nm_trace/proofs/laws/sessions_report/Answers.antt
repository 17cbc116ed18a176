use Rattle.nm_trace.proofs.Sessions.{fed}
use Rattle.nm_trace.proofs.laws.sessions_report.Goals as goal

pub returns-clause-report : goal.returns-clause-report
returns-clause-report c = fed

pub returns-clause-traces : goal.returns-clause-traces
returns-clause-traces c = λ plan. (fed _ plan.calls).lines
