-- What a run says about its reader and its writer.
use Rattle.std.specs.Prelude.{◌≡◌, ℕ, ◌<◌, ◌≤◌, Bool, true, false, List, length, Option, IfSome, Result, Err}
use Rattle.nm_steps.specs.declared.trace_error.TraceError.{TraceError}
use Rattle.nm_steps.specs.declared.trace_error.TraceError.TheVariants.{ReadFault, WriteFault, HostMemory}
use Rattle.nm_steps.specs.Faults.{TraceContents, trace_of, trace_limit}
use Rattle.nm_streams.specs.Reporting.{HasReadCause}

-- a trace is that of bytes, or their first fault; or the host has no memory for them
abbrev pub IsTraceOf : List ℕ → Result TraceContents TraceError → Type 0
IsTraceOf bytes (Err ReadFault) = ⊥
IsTraceOf bytes (Err (HostMemory k)) = (k ≡ 0) × (0 < length bytes)
IsTraceOf bytes trace = trace ≡ trace_of bytes

-- the trace that a reader gives, or why there is none, if it had these bytes left (where that is known), had failed or
-- not before and after, and gave so many bytes: a read fault has its cause; if the host has no memory, the reader gave
-- at least one byte; else the trace is that of all of its bytes, which are no more than a trace may have
abbrev pub GivesTrace : Option (List ℕ) → Bool → Bool → (ℕ → Type 0) → Result TraceContents TraceError → Type 0
GivesTrace remaining before now gave (Err ReadFault) = HasReadCause trace_limit now gave
GivesTrace remaining before now gave (Err (HostMemory k)) = (k ≡ 0) × (now ≡ before) × ((n : ℕ) × (0 < n) × gave n)
GivesTrace remaining before now gave trace =
    (now ≡ before) × ((bytes : List ℕ) × IfSome remaining (λ xs. bytes ≡ xs) × gave (length bytes)
    × (length bytes ≤ trace_limit) × (trace ≡ trace_of bytes))

-- whether a result is a write fault
abbrev pub is_write_fault : {X : Type 0} → Result X TraceError → Bool
is_write_fault (Err WriteFault) = true
is_write_fault result = false
