-- What a play makes and writes, and what a run from bytes does.
use Rattle.std.specs.Prelude.{◌≡◌, ◌⊎◌, ℕ, ◌-◌, ◌≤◌, Bool, List, [], ◌++◌, length, take, slice_get, Option, Some, Result, Ok, Err}
use Rattle.std.specs.Io.KnownBytes.{Appends}
use Rattle.nm_calls.specs.definitions.Systems.{SystemState, system_with}
use Rattle.nm_requests.specs.Calls.{Call}
use Rattle.nm_calls.specs.definitions.Does.{HostLeaves}
use Rattle.nm_calls.specs.definitions.Memory.{MayAllocate}
use Rattle.nm_trace.specs.declared.playing.Summary.{Summary}
use Rattle.nm_steps.specs.declared.trace_error.TraceError.{TraceError}
use Rattle.nm_steps.specs.declared.trace_error.TraceError.TheVariants.{WriteFault, HostMemory}
use Rattle.nm_steps.specs.Faults.{TraceContents}
use Rattle.nm_calls.specs.definitions.Outcome.{outcome}
use Rattle.nm_streams.specs.declared.block.Block.{Block}
use Rattle.nm_streams.specs.Waiting.{BreaksOffSoon, Puts}
use Rattle.nm_trace.specs.definitions.Report.{text_of, report_from, state_after}

-- a call that runs out of host memory has made some of its first runs
abbrev pub StopsIn : SystemState → Call → SystemState → Type 0
StopsIn s call t = (runs : ℕ) × (policy_set : Bool) × HostLeaves s call runs policy_set t

-- a call is made and its lines are put; or it stopped, and nothing was put
abbrev pub PutsLines : {E W A : Type 0} → (W → Option (List ℕ)) → (W → Bool) → ℕ → Result (Unit {0}) E → SystemState → SystemState → Call
    → W → Block A → W → Block A → Type 0
PutsLines contents failed k (Ok done) s t call w b v c =
    Puts contents failed w b v c (text_of k call (outcome s call).answer) × (t ≡ (outcome s call).system)
PutsLines contents failed k (Err e) s t call w b v c = StopsIn s call t × (v ≡ w) × (c ≡ b)

-- after the first k calls the next one, which may allocate, stopped
abbrev pub StopsAt : SystemState → List Call → ℕ → SystemState → Type 0
StopsAt s calls k t =
    let before = state_after s (take k calls) in
    (call : Call) × (slice_get calls k ≡ Some call) × MayAllocate before.state call × StopsIn before call t

-- the report on the first k calls breaks off, and of the lines of all but the last of them at most 65,536 bytes were
-- not written: no more wait in a block, and once a write has failed no more calls are made
abbrev pub BreaksOffAt : SystemState → List Call → ℕ → Option (List ℕ) → Option (List ℕ) → Type 0
BreaksOffAt s calls k old new =
    BreaksOffSoon 65536 old new (report_from 0 s (take (k - 1) calls)) (report_from 0 s (take k calls))

-- a play makes every call and writes the report on them; if the writer fails, only the first k calls were made for some
-- k, and the report on them breaks off; if the host has no memory for step k, the report on the steps before it is
-- written, and step k may have been made in part; there is no other fault
abbrev pub Plays : SystemState → List Call → SystemState → Option (List ℕ) → Option (List ℕ) → Result Summary TraceError → Type 0
Plays s calls t old new (Ok summary) =
    (summary.steps ≡ length calls) × (t ≡ state_after s calls) × Appends old new (report_from 0 s calls)
Plays s calls t old new (Err WriteFault) =
    (k : ℕ) × (k ≤ length calls) × ((t ≡ state_after s (take k calls)) ⊎ StopsAt s calls k t)
    × BreaksOffAt s calls k old new
Plays s calls t old new (Err (HostMemory k)) = StopsAt s calls k t × Appends old new (report_from 0 s (take k calls))
Plays s calls t old new (Err e) = ⊥

-- the report on a trace: on its steps, from a new machine on
abbrev pub report_of : TraceContents → List ℕ
report_of plan = report_from 0 (system_with plan.layout plan.run_limit) plan.calls

-- a play of a trace on a new machine, whatever state it leaves
abbrev pub PlaysNew : TraceContents → Option (List ℕ) → Option (List ℕ) → Result Summary TraceError → Type 0
PlaysNew plan old new result = (t : SystemState) × Plays (system_with plan.layout plan.run_limit) plan.calls t old new result

-- how far the play of a trace came, if it did not reach the end
abbrev pub ComesTo : {P : Type 0} → Result TraceContents TraceError → Option (List ℕ) → Option (List ℕ) → Result P TraceError → Type 0
ComesTo (Ok plan) old new (Err e) = PlaysNew plan old new (Err e)
ComesTo trace old new result = Unit {0}
