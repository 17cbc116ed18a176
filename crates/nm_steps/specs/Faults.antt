-- The trace that bytes are, or else their first fault.
use Rattle.std.specs.Prelude.{◌≡◌, ℕ, suc, List, if◌then◌else◌, Option, None, is_some, Result, Ok, Err, codes}
use Rattle.std.specs.Option.{ok_or}
use Rattle.std.specs.Str.{is_utf8}
use Rattle.serde_json.specs.Data.{Data, Items, no_items, item}
use Rattle.serde_json.specs.Read.{read}
use Rattle.nm_types.specs.Layout.{Layout}
use Rattle.nm_requests.specs.Calls.{Call}
use Rattle.nm_steps.specs.declared.trace_error.TraceError.{TraceError}
use Rattle.nm_steps.specs.declared.trace_error.TraceError.TheVariants.{NotJson, BadMachine, BadStep, ReadFault, WriteFault, HostMemory}
use Rattle.nm_steps.specs.declared.step_error.StepError.{StepError}
use Rattle.nm_steps.specs.declared.step_error.StepError.TheVariants.{Bad, Memory}
use Rattle.nm_steps.specs.Form as form

-- a trace: its machine, the most requests that a run may have, and the calls of its steps
pub record TraceContents : Type 0 where
  pub layout : Layout
  pub run_limit : ℕ
  pub calls : List Call

infixl 10 ◌>>=◌
abbrev pub ◌>>=◌ : {A B : Type 0} → Result A TraceError → (A → Result B TraceError) → Result B TraceError
(Ok x) >>= f = f x
(Err e) >>= f = Err e

-- the JSON value of bytes, if they are one
abbrev pub value_of : List ℕ → Option Data
value_of bytes = if is_utf8 bytes then read bytes else None

-- the index of the first item that is not a step, where a run has at most `limit` requests
abbrev pub first_bad : ℕ → Items → ℕ
first_bad limit no_items = 0
first_bad limit (item d ds) = if is_some (form.step_of limit d) then suc (first_bad limit ds) else 0

abbrev pub calls_of : ℕ → Items → Result (List Call) TraceError
calls_of limit ds = ok_or (form.each (form.step_of limit) ds) (BadStep (first_bad limit ds))

-- the trace of a machine, with the limit and the steps that data give
unfoldable pub plan_on : Layout → Data → Result TraceContents TraceError
plan_on layout d = do
  limit ← ok_or (form.limit_of d) BadMachine
  ds ← ok_or (form.items_at (codes "steps") d) BadMachine
  calls ← calls_of limit ds
  Ok (record { layout = layout; run_limit = limit; calls = calls })

unfoldable pub plan_of : Data → Result TraceContents TraceError
plan_of d = do
  layout ← ok_or (form.machine_of d) BadMachine
  plan_on layout d

unfoldable pub trace_of : List ℕ → Result TraceContents TraceError
trace_of bytes = do
  d ← ok_or (value_of bytes) NotJson
  plan_of d

-- the most bytes that a trace may have
abbrev pub trace_limit : ℕ
trace_limit = 16777216

-- an error is the first fault of the trace, unless memory ran out before the first step
abbrev pub Fails : {Y : Type 0} → TraceError → Result Y TraceError → Type 0
Fails NotJson found = found ≡ Err NotJson
Fails BadMachine found = found ≡ Err BadMachine
Fails (BadStep k) found = found ≡ Err (BadStep k)
Fails ReadFault found = ⊥
Fails WriteFault found = ⊥
Fails (HostMemory k) found = k ≡ 0

-- a result, mapped by `view`, is what the definition says
abbrev pub Gives : {X Y : Type 0} → (X → Y) → Result X TraceError → Result Y TraceError → Type 0
Gives view (Ok x) found = found ≡ Ok (view x)
Gives view (Err e) found = Fails e found

-- the fault of a trace's machine
abbrev pub bad_machine : StepError → TraceError
bad_machine Bad = BadMachine
bad_machine Memory = HostMemory 0
