-- What faults say of the writer.
use Rattle.std.proofs.Common.{◌≡◌, ◌||◌, ◌⊎◌, inl, inr, Result, Err, Bool, refl}
use Rattle.nm_steps.specs.declared.trace_error.TraceError.{TraceError}
use Rattle.nm_steps.specs.declared.trace_error.TraceError.TheVariants.{ReadFault, HostMemory}
use Rattle.nm_trace.specs.definitions.Reporting.{is_write_fault}

-- an error that is handed on is a write fault where it was one
pub writes_of_err : {X Y : Type 0} (before now : Bool) (e : TraceError) (r : Result X TraceError) (s : Result Y TraceError) → r ≡ Err e → s ≡ Err e → now ≡ (is_write_fault r || before) → now ≡ (is_write_fault s || before)
writes_of_err {X = X} before now e r s is it h =
    let is_so : now ≡ (is_write_fault {X = X} (Err e) || before) = rw is at h in
    rw it is_so

-- an error of reading is none
pub unwritten : {X : Type 0} (before : Bool) (e : TraceError) (r : Result X TraceError) → r ≡ Err e → ((e ≡ ReadFault) ⊎ (e ≡ HostMemory 0)) → before ≡ (is_write_fault r || before)
unwritten before e r is (inl h) = rw (is, h) refl
unwritten before e r is (inr h) = rw (is, h) refl
