-- A run that plays the trace of its bytes.
use Rattle.std.proofs.Common.{◌≡◌, ℕ, ◌<◌, ◌≤◌, Bool, List, [], ◌++◌, length, Option, IfSome, Result, Ok, Err, refl, sym, ap, ◌∙◌, subst, append_assoc}
use Rattle.std.proofs.lemmas.Option.{slice_get_within}
use Rattle.nm_calls.specs.definitions.Systems.{SystemState, system_with}
use Rattle.nm_requests.specs.Calls.{Call}
use Rattle.nm_trace.specs.declared.playing.Summary.{Summary}
use Rattle.nm_steps.specs.declared.trace_error.TraceError.{TraceError}
use Rattle.nm_steps.specs.declared.trace_error.TraceError.TheVariants.{NotJson, BadMachine, BadStep, ReadFault, WriteFault, HostMemory}
use Rattle.nm_steps.specs.Faults.{Fails, Gives, TraceContents, trace_of, trace_limit}
use Rattle.nm_trace.specs.definitions.Headline.{Runs}
use Rattle.nm_trace.specs.definitions.Played.{ComesTo, Plays}
use Rattle.nm_trace.specs.definitions.Reporting.{GivesTrace, IsTraceOf}
use Rattle.nm_streams.proofs.Known.{appends_none}
use Rattle.nm_trace.proofs.InParts.{report_front}

-- a run from bytes
abbrev pub RunsFrom : {P : Type 0} → (TraceContents → P → Type 0) → List ℕ → Option (List ℕ) → Option (List ℕ) → Result P TraceError → Type 0
RunsFrom Ends bytes old new result =
    (trace : Result TraceContents TraceError) × IsTraceOf bytes trace × Runs Ends trace old new result × ComesTo trace old new result

-- ---- no trace

pub no_trace : {P : Type 0} (Ends : TraceContents → P → Type 0) (bytes : List ℕ) (old : Option (List ℕ)) (e : TraceError) (result : Result P TraceError)
    → Fails e (trace_of bytes) → ((k : ℕ) → e ≡ HostMemory k → 0 < length bytes) → result ≡ Err e → RunsFrom Ends bytes old old result
no_trace Ends bytes old NotJson result h some is = (Err NotJson, sym h, (is, appends_none old), tt)
no_trace Ends bytes old BadMachine result h some is = (Err BadMachine, sym h, (is, appends_none old), tt)
no_trace Ends bytes old (BadStep k) result h some is = (Err (BadStep k), sym h, (is, appends_none old), tt)
no_trace Ends bytes old ReadFault result h some is = absurd h
no_trace Ends bytes old WriteFault result h some is = absurd h
no_trace Ends bytes old (HostMemory k) result h some is = (Err (HostMemory k), (h, some k refl), (is, appends_none old), tt)

-- the host has no memory for the machine
pub no_memory : {P : Type 0} (Ends : TraceContents → P → Type 0) (bytes : List ℕ) (old : Option (List ℕ)) → 0 < length bytes → RunsFrom Ends bytes old old (Err (HostMemory 0))
no_memory Ends bytes old some = (Err (HostMemory 0), (refl, some), (refl, appends_none old), tt)

-- what reading fails with is the trace's fault
pub unread_fails : {X : Type 0} (view : X → TraceContents) (found : Result TraceContents TraceError) (r : Result X TraceError) (e : TraceError) → r ≡ Err e → Gives view r found → Fails e found
unread_fails view found r e is gives = subst (λ (x : Result _ TraceError). Gives view x found) is gives

-- ---- a trace that is played

-- a play that is cut short
short : {P : Type 0} (Ends : TraceContents → P → Type 0) (plan : TraceContents) (t : SystemState) (old new : Option (List ℕ)) (e : TraceError)
    → Plays (system_with plan.layout plan.run_limit) plan.calls t old new (Err e) → Runs Ends (Ok plan) old new (Err e)
short Ends plan t old new NotJson p = absurd p
short Ends plan t old new BadMachine p = absurd p
short Ends plan t old new (BadStep k) p = absurd p
short Ends plan t old new ReadFault p = absurd p
short Ends plan t old new WriteFault p =
    let broken = p.3 in
    let whole = report_front (system_with plan.layout plan.run_limit) plan.calls p.0 in (
      broken.0,
      broken.1 ++ whole.0,
      sym (append_assoc broken.0 broken.1 whole.0) ∙ ap (λ (ls : List ℕ). ls ++ whole.0) broken.2 ∙ whole.1,
      broken.4,
    )
short Ends plan t old new (HostMemory k) p = (slice_get_within plan.calls k p.0.0 p.0.1, p.1)

pub cut_short : {P : Type 0} (Ends : TraceContents → P → Type 0) (bytes : List ℕ) (plan : TraceContents) (s t : SystemState) (calls : List Call) (old new : Option (List ℕ))
    (played : Result Summary TraceError) (e : TraceError) (result : Result P TraceError)
    → trace_of bytes ≡ Ok plan → s ≡ system_with plan.layout plan.run_limit → calls ≡ plan.calls → Plays s calls t old new played → played ≡ Err e
    → result ≡ Err e → RunsFrom Ends bytes old new result
cut_short Ends bytes plan s t calls old new played e result trace start same p failed is =
    let first = system_with plan.layout plan.run_limit in
    let q = subst (λ (r : Result Summary TraceError). Plays first plan.calls t old new r) failed
    (subst (λ (cs : List Call). Plays first cs t old new played) same (subst (λ (u : SystemState). Plays u calls t old new played) start p)) in (
      Ok plan,
      sym trace,
      subst (Runs Ends (Ok plan) old new) (sym is) (short Ends plan t old new e q),
      subst (ComesTo (Ok plan) old new) (sym is) (t, q),
    )

-- ---- what a run returns

-- an error that is handed on
same_fault : {P Q : Type 0} (Ends : TraceContents → P → Type 0) (Also : TraceContents → Q → Type 0) (plan : TraceContents) (old new : Option (List ℕ)) (e : TraceError)
    → Runs Ends (Ok plan) old new (Err e) → Runs Also (Ok plan) old new (Err e)
same_fault Ends Also plan old new NotJson h = h
same_fault Ends Also plan old new BadMachine h = h
same_fault Ends Also plan old new (BadStep k) h = h
same_fault Ends Also plan old new ReadFault h = h
same_fault Ends Also plan old new WriteFault h = h
same_fault Ends Also plan old new (HostMemory k) h = h

-- two errors of one result are one
one_error : {P : Type 0} (r : Result P TraceError) (d e : TraceError) → r ≡ Err d → r ≡ Err e → d ≡ e
one_error r d e one other = let is : Err d ≡ Err e = sym one ∙ other in cc

pub handed_on : {P Q : Type 0} (Ends : TraceContents → P → Type 0) (Also : TraceContents → Q → Type 0) (trace : Result TraceContents TraceError) (old new : Option (List ℕ)) (e : TraceError)
    (r : Result P TraceError) (s : Result Q TraceError) → r ≡ Err e → s ≡ Err e → Runs Ends trace old new r → Runs Also trace old new s
handed_on Ends Also (Err d) old new e r s is it h = (it ∙ ap Err (one_error r e d is h.0), h.1)
handed_on Ends Also (Ok plan) old new e r s is it h =
    subst (Runs Also (Ok plan) old new) (sym it) (same_fault Ends Also plan old new e (subst (Runs Ends (Ok plan) old new) is h))

-- another result of a run that played its trace to the end
pub ended : {P Q : Type 0} (Ends : TraceContents → P → Type 0) (Also : TraceContents → Q → Type 0) (trace : Result TraceContents TraceError) (old new : Option (List ℕ)) (p : P) (q : Q)
    (r : Result P TraceError) → r ≡ Ok p → ((plan : TraceContents) → Ends plan p → Also plan q) → Runs Ends trace old new r → Runs Also trace old new (Ok q)
ended Ends Also (Err d) old new p q r is more h = let bad : Ok p ≡ Err d = sym is ∙ h.0 in absurd (cc)
ended Ends Also (Ok plan) old new p q r is more h = more plan (subst (Runs Ends (Ok plan) old new) is h)

-- ---- the bytes that were read

-- the trace of all of them
pub gives_all : (remaining : Option (List ℕ)) (before now : Bool) (gave : ℕ → Type 0) (items bytes : List ℕ) (trace : Result TraceContents TraceError)
    → IfSome remaining (λ xs. items ≡ xs) → length items ≤ trace_limit → gave (length items) → now ≡ before → bytes ≡ items
    → IsTraceOf bytes trace → GivesTrace remaining before now gave trace
gives_all remaining before now gave items bytes (Ok plan) left few given kept is h = (kept, (items, left, given, few, h ∙ ap trace_of is))
gives_all remaining before now gave items bytes (Err NotJson) left few given kept is h = (kept, (items, left, given, few, h ∙ ap trace_of is))
gives_all remaining before now gave items bytes (Err BadMachine) left few given kept is h = (kept, (items, left, given, few, h ∙ ap trace_of is))
gives_all remaining before now gave items bytes (Err (BadStep k)) left few given kept is h = (kept, (items, left, given, few, h ∙ ap trace_of is))
gives_all remaining before now gave items bytes (Err ReadFault) left few given kept is h = absurd h
gives_all remaining before now gave items bytes (Err WriteFault) left few given kept is h = (kept, (items, left, given, few, h ∙ ap trace_of is))
gives_all remaining before now gave items bytes (Err (HostMemory k)) left few given kept is h =
    (h.0, kept, (length items, subst (λ (bs : List ℕ). 0 < length bs) is h.1, given))
