-- What traces, sessions and steps write and leave.
use Rattle.std.specs.Prelude.{◌≡◌, ◌⊎◌, ℕ, ℤ, pos, List, [], Option, Some, None, Ok, Err}
use Rattle.nm_library.specs.declared.handle.OpenSession.{OpenSession}
use Rattle.nm_library.specs.Rooms.{FillsRoom}
use Rattle.nm_requests.specs.Calls.{Call}
use Rattle.nm_steps.specs.Faults.{TraceContents, trace_of}
use Rattle.nm_steps.specs.declared.trace_error.TraceError.{TraceError}
use Rattle.nm_steps.specs.declared.trace_error.TraceError.TheVariants.{NotJson, BadMachine, BadStep, ReadFault, WriteFault, HostMemory}
use Rattle.nm_trace.specs.definitions.Played.{report_of}
use Rattle.nm_trace.specs.definitions.Session.{next_call, next, next_lines, session_of, StopsShort}

-- the status of a fault. A writer to memory fails only where there is none, and a reader of memory only where a trace is too long
abbrev pub fault_status : TraceError → ℤ
fault_status NotJson = pos 4
fault_status BadMachine = pos 2
fault_status (BadStep k) = pos 2
fault_status ReadFault = pos 1
fault_status WriteFault = pos 3
fault_status (HostMemory k) = pos 3

-- the fault is one of the bytes
abbrev pub IsBad : TraceError → Type 0
IsBad NotJson = Unit {0}
IsBad BadMachine = Unit {0}
IsBad (BadStep k) = Unit {0}
IsBad ReadFault = ⊥
IsBad WriteFault = ⊥
IsBad (HostMemory k) = ⊥

-- the text is the report on the trace that these bytes are
abbrev pub IsReport : List ℕ → List ℕ → Type 0
IsReport trace text = (plan : TraceContents) × (trace_of trace ≡ Ok plan) × (text ≡ report_of plan)

-- the report on a trace is written; or nothing is, for a fault, which is that of the bytes if it is one of bytes
abbrev pub ReportsTrace : List ℕ → ℤ → List ℕ → List ℕ → ℕ → ℕ → Type 0
ReportsTrace trace status old new before needed =
    ((text : List ℕ) × IsReport trace text × FillsRoom text status old new needed)
    ⊎ ((fault : TraceError) × (status ≡ fault_status fault) × (IsBad fault → trace_of trace ≡ Err fault)
    × (new ≡ old) × (needed ≡ before))

-- a session that is open stays; where there is none, the one that the top of a trace begins is opened, or none, for a fault
abbrev pub OpensSession : List ℕ → ℤ → Option OpenSession → Option OpenSession → Type 0
OpensSession top status (Some kept) new = (status ≡ pos 1) × (new ≡ Some kept)
OpensSession top status None (Some kept) = (status ≡ pos 0) × (session_of top ≡ Ok kept.session) × (kept.lines.items ≡ [])
OpensSession top status None None = (fault : TraceError) × (status ≡ fault_status fault) × (IsBad fault → session_of top ≡ Err fault)

-- the call that the bytes are is made as the session's next step, and its lines are kept
abbrev pub IsStep : OpenSession → List ℕ → OpenSession → Type 0
IsStep old step new =
    (call : Call) × (next_call old.session step ≡ Ok call)
    × (new.lines.items ≡ next_lines old.session call) × (new.session ≡ next old.session call)

-- a fault of the bytes leaves the session as it was; lack of memory may leave the call made in part, or whole
abbrev pub LeavesStep : TraceError → OpenSession → List ℕ → OpenSession → Type 0
LeavesStep NotJson old step new = (next_call old.session step ≡ Err NotJson) × (new.session ≡ old.session)
LeavesStep BadMachine old step new = ⊥
LeavesStep (BadStep k) old step new = (next_call old.session step ≡ Err (BadStep k)) × (new.session ≡ old.session)
LeavesStep ReadFault old step new = ⊥
LeavesStep WriteFault old step new = ⊥
LeavesStep (HostMemory k) old step new = StopsShort old.session step new.session

-- a step is made and its lines are written; or nothing is, for a fault, and the lines of the step before are kept
abbrev pub MakesSteps : List ℕ → List ℕ → List ℕ → ℕ → ℕ → ℤ → OpenSession → OpenSession → Type 0
MakesSteps step before after needed_before needed status old new =
    (IsStep old step new × FillsRoom new.lines.items status before after needed)
    ⊎ ((fault : TraceError) × (status ≡ fault_status fault) × LeavesStep fault old step new × (new.lines ≡ old.lines)
    × (after ≡ before) × (needed ≡ needed_before))
