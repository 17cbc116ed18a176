-- The headline: what running a trace does.
use Rattle.std.specs.Prelude.{◌≡◌, ℕ, ◌+◌, ◌<◌, true, false, List, [], ◌++◌, length, take, slice_get, Option, Some, Result, Ok, Err}
use Rattle.std.specs.Io.KnownBytes.{Appends}
use Rattle.nm_model.specs.definitions.Memory.{mem}
use Rattle.nm_model.specs.definitions.Sound.{each_frame_is_once}
use Rattle.nm_requests.specs.Calls.{Call}
use Rattle.nm_calls.specs.laws.Calls.{writes_or_maps, byte_after}
use Rattle.nm_calls.specs.definitions.Outcome.{runs_of}
use Rattle.nm_calls.specs.definitions.Systems.{SystemState, system_with}
use Rattle.nm_steps.specs.Faults.{TraceContents}
use Rattle.nm_trace.specs.declared.playing.Summary.{Summary}
use Rattle.nm_trace.specs.definitions.Played.{report_of}
use Rattle.nm_trace.specs.definitions.Report.{state_after}
use Rattle.nm_steps.specs.declared.trace_error.TraceError.{TraceError}
use Rattle.nm_steps.specs.declared.trace_error.TraceError.TheVariants.{WriteFault, HostMemory}

-- no call except a write, and those that add or remove areas, changes a byte that a process has at an address: it is
-- that of the last write in flight made there, or else the same as before the call
abbrev pub KeepMemory : SystemState → List Call → Type 0
KeepMemory s calls =
    (k : ℕ) (call : Call) (q at : ℕ) → slice_get calls k ≡ Some call → writes_or_maps call ≡ false →
    let before = state_after s (take k calls) in
    mem (state_after s (take (k + 1) calls)).state q at ≡ byte_after before call (runs_of before call) q at

-- a trace was played to its end on a new machine
pub record IsPlayed (plan : TraceContents) (steps : ℕ) (system : SystemState) (old new : Option (List ℕ)) : Type 0 where
  -- each of its steps was made
  pub whole : steps ≡ length plan.calls
  -- the report on them was written
  pub report : Appends old new (report_of plan)
  -- the system is in the state of its calls, made one after another, each as one request after another
  pub state : system ≡ state_after (system_with plan.layout plan.run_limit) plan.calls
  -- each frame of the machine is in exactly one place: its own node's free list, or one page's
  pub frames : each_frame_is_once system.state ≡ true
  -- no move changed a byte that a process reads
  pub memory : KeepMemory (system_with plan.layout plan.run_limit) plan.calls

-- the same, for some system that the play leaves
abbrev pub PlaysWhole : Option (List ℕ) → Option (List ℕ) → TraceContents → Summary → Type 0
PlaysWhole old new plan summary = (system : SystemState) × IsPlayed plan summary.steps system old new

-- the report on the steps of a trace before step k
abbrev pub report_before : TraceContents → ℕ → List ℕ
report_before plan k = report_of (record plan { calls = take k plan.calls })

-- the written bytes, if known, grow by a front of a text
abbrev pub AppendsFront : Option (List ℕ) → Option (List ℕ) → List ℕ → Type 0
AppendsFront old new text = (front : List ℕ) × (rest : List ℕ) × (front ++ rest ≡ text) × Appends old new front

-- what running a trace does, given the trace that was read: if there is none, its fault is returned and nothing is
-- written; if it is played to its end, `Ends` holds of it and of what is returned; if the writer fails, a front of the
-- report was written; if the host has no memory for step k, the lines of the steps before it were written
abbrev pub Runs : {P : Type 0} → (TraceContents → P → Type 0) → Result TraceContents TraceError → Option (List ℕ) → Option (List ℕ)
    → Result P TraceError → Type 0
Runs Ends (Err e) old new result = (result ≡ Err e) × Appends old new []
Runs Ends (Ok plan) old new (Ok played) = Ends plan played
Runs Ends (Ok plan) old new (Err WriteFault) = AppendsFront old new (report_of plan)
Runs Ends (Ok plan) old new (Err (HostMemory k)) = (k < length plan.calls) × Appends old new (report_before plan k)
Runs Ends (Ok plan) old new (Err e) = ⊥
