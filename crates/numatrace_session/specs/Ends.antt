-- Why a session ends before its input does, and the exit status.
use Rattle.std.specs.Prelude.{◌≡◌, ℕ, Bool, true, false, List, Option, Result, Ok, Err, codes}
use Rattle.std.specs.Io.KnownBytes.{Appends}
use Rattle.std.specs.declared.io.ErrorKind.{ErrorKind}
use Rattle.std.specs.declared.io.ErrorKind.TheVariants.{OutOfMemory}
use Rattle.nm_steps.specs.declared.trace_error.TraceError.{TraceError}
use Rattle.nm_steps.specs.declared.trace_error.TraceError.TheVariants as trace
use Rattle.nm_steps.specs.Memory.{IsSomeText}
use Rattle.nm_trace.specs.definitions.Session.{SessionState, session_of}
use Rattle.numatrace_session.specs.declared.End.{End}
use Rattle.numatrace_session.specs.declared.End.TheVariants.{BadTop, HostMemory, Stream}

-- where a line cannot be read, for an error of this kind: if the reader has not failed, memory for the line was refused
abbrev pub unread : ErrorKind → Bool → End
unread OutOfMemory failed = HostMemory
unread kind true = Stream
unread kind false = HostMemory

-- where the first line begins no session, for this fault
abbrev pub end_unopened : TraceError → End
end_unopened (trace.HostMemory k) = HostMemory
end_unopened fault = BadTop fault

-- a first line begins a session, or none for a fault; or the host is out of memory, but never for a line that is empty
-- or not UTF-8
abbrev pub Begins : Result SessionState End → List ℕ → Type 0
Begins (Ok s) top = session_of top ≡ Ok s
Begins (Err (BadTop fault)) top = session_of top ≡ Err fault
Begins (Err HostMemory) top = IsSomeText top
Begins (Err Stream) top = ⊥

-- 0 where the input has ended, 2 after a bad top, 3 without memory of the host, 4 where a stream failed
abbrev pub status_of : Result (Unit {0}) End → ℕ
status_of (Ok done) = 0
status_of (Err (BadTop fault)) = 2
status_of (Err HostMemory) = 3
status_of (Err Stream) = 4

-- the line on standard error; that of a bad top has the words of its fault
abbrev pub IsPrinted : End → Option (List ℕ) → Option (List ℕ) → Type 0
IsPrinted (BadTop fault) old new = Unit {0}
IsPrinted HostMemory old new = Appends old new (codes "numatrace_session: host memory refused\n")
IsPrinted Stream old new = Appends old new (codes "numatrace_session: a stream failed\n")
