-- What sessions return is the report.
use Rattle.std.specs.Prelude.{◌≡◌, List}
use Rattle.nm_requests.specs.Calls.{Call}
use Rattle.nm_calls.specs.definitions.Systems.{system_with}
use Rattle.nm_steps.specs.Faults.{TraceContents}
use Rattle.nm_trace.specs.definitions.Played.{report_of}
use Rattle.nm_trace.specs.definitions.Report.{report_from, state_after}
use Rattle.nm_trace.specs.definitions.Session.{SessionState, all_lines, after_all}

-- a session that is given calls one by one returns the report on them, and its system is in the state after them
pub record IsFed (s : SessionState) (calls : List Call) : Type 0 where
  pub lines : all_lines s calls ≡ report_from s.steps s.system calls
  pub system : (after_all s calls).system ≡ state_after s.system calls

abbrev pub SessionsReport : Type 0
SessionsReport = (s : SessionState) (calls : List Call) → IsFed s calls

-- a session that is given the steps of a trace returns the report on it
abbrev pub SessionsAreTraces : Type 0
SessionsAreTraces =
    (plan : TraceContents) → let s : SessionState = record { system = system_with plan.layout plan.run_limit; steps = 0 } in
    all_lines s plan.calls ≡ report_of plan
