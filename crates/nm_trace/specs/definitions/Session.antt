-- A trace that is played as its steps arrive.
use Rattle.std.specs.Prelude.{◌≡◌, ◌⊎◌, ℕ, ◌+◌, List, [], ◌∷◌, ◌++◌, Option, Some, None, Result, Ok, Err}
use Rattle.std.specs.Option.{ok_or}
use Rattle.serde_json.specs.Data.{Data}
use Rattle.nm_requests.specs.Calls.{Call}
use Rattle.nm_requests.specs.declared.call.Call.{Call as Made}
use Rattle.nm_requests.specs.Views.{call_of}
use Rattle.nm_calls.specs.definitions.Outcome.{outcome}
use Rattle.nm_calls.specs.definitions.Systems.{SystemState, system_with}
use Rattle.nm_steps.specs.declared.trace_error.TraceError.{TraceError}
use Rattle.nm_steps.specs.declared.trace_error.TraceError.TheVariants.{NotJson, BadMachine, BadStep, ReadFault, WriteFault, HostMemory}
use Rattle.nm_steps.specs.Form as form
use Rattle.nm_steps.specs.Faults.{◌>>=◌, value_of}
use Rattle.nm_trace.specs.definitions.Played.{StopsIn}
use Rattle.nm_trace.specs.definitions.Report.{text_of}

-- the system, and how many steps were made
pub record SessionState : Type 0 where
  pub system : SystemState
  pub steps : ℕ

-- the session that the top of a trace begins, whatever its steps
unfoldable pub new_session : Data → Result SessionState TraceError
new_session d = do
  layout ← ok_or (form.machine_of d) BadMachine
  limit ← ok_or (form.limit_of d) BadMachine
  Ok (record { system = system_with layout limit; steps = 0 })

-- the session that these bytes begin, or their first fault
unfoldable pub session_of : List ℕ → Result SessionState TraceError
session_of bytes = do
  d ← ok_or (value_of bytes) NotJson
  new_session d

-- the call that these bytes are as the next step, or their fault
unfoldable pub next_call : SessionState → List ℕ → Result Call TraceError
next_call s bytes = do
  d ← ok_or (value_of bytes) NotJson
  ok_or (form.step_of s.system.run_limit d) (BadStep s.steps)

-- a value as the step with this number: its call, as contracts see it, or its fault
abbrev pub IsCall : {A : Type 0} → ℕ → Result (Made A) TraceError → Option Call → Type 0
IsCall step (Ok call) found = found ≡ Some (call_of call)
IsCall step (Err NotJson) found = ⊥
IsCall step (Err BadMachine) found = ⊥
IsCall step (Err (BadStep k)) found = (k ≡ step) × (found ≡ None)
IsCall step (Err ReadFault) found = ⊥
IsCall step (Err WriteFault) found = ⊥
IsCall step (Err (HostMemory k)) found = k ≡ step

-- the lines of a call made as the next step
abbrev pub next_lines : SessionState → Call → List ℕ
next_lines s call = text_of s.steps call (outcome s.system call).answer

-- the session after a call
abbrev pub next : SessionState → Call → SessionState
next s call = record { system = (outcome s.system call).system; steps = s.steps + 1 }

-- a call stopped for lack of memory, or was made without memory for its lines, and counts as no step; or no call was
-- made
abbrev pub StopsShort : SessionState → List ℕ → SessionState → Type 0
StopsShort old bytes new =
    (new.steps ≡ old.steps)
    × ((new.system ≡ old.system)
    ⊎ ((call : Call) × (next_call old bytes ≡ Ok call)
    × (StopsIn old.system call new.system ⊎ (new.system ≡ (outcome old.system call).system))))

-- a step: the call in these bytes is made, and its lines, mapped by `view`, are returned; a fault of the bytes changes
-- nothing
abbrev pub Steps : {V : Type 0} → (V → List ℕ) → SessionState → SessionState → List ℕ → Result V TraceError → Type 0
Steps view old new bytes (Ok v) =
    (call : Call) × (next_call old bytes ≡ Ok call) × (view v ≡ next_lines old call) × (new ≡ next old call)
Steps view old new bytes (Err NotJson) = (next_call old bytes ≡ Err NotJson) × (new ≡ old)
Steps view old new bytes (Err BadMachine) = ⊥
Steps view old new bytes (Err (BadStep k)) = (next_call old bytes ≡ Err (BadStep k)) × (new ≡ old)
Steps view old new bytes (Err ReadFault) = ⊥
Steps view old new bytes (Err WriteFault) = ⊥
Steps view old new bytes (Err (HostMemory k)) = (k ≡ old.steps) × StopsShort old bytes new

-- the lines of calls made one after another, each as the next step
abbrev pub all_lines : SessionState → List Call → List ℕ
all_lines s [] = []
all_lines s (call ∷ calls) = next_lines s call ++ all_lines (next s call) calls

-- the session after these calls
abbrev pub after_all : SessionState → List Call → SessionState
after_all s [] = s
after_all s (call ∷ calls) = after_all (next s call) calls
