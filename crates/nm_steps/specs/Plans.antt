-- What a trace in memory asks for.
use Rattle.std.specs.Prelude.{map}
use Rattle.nm_requests.specs.Views.{call_of}
use Rattle.nm_steps.specs.declared.trace.Trace.{Trace}
use Rattle.nm_steps.specs.Faults.{TraceContents}

-- its machine, its limit, and its calls
abbrev pub contents_of : {A : Type 0} → Trace A → TraceContents
contents_of trace = record { layout = trace.geometry; run_limit = trace.run_limit; calls = map call_of trace.calls.items }
