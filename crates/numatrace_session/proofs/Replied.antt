-- What is written in reply to a line.
use Rattle.std.proofs.Common.{◌≡◌, ℕ, List, [], ◌∷◌, ◌++◌, Bool, Option, Result, Ok, Err, ap, refl, subst, sym, ◌∙◌}
use Rattle.std.specs.Prelude.{IsErr, IsErrAnd}
use Rattle.std.specs.Io.KnownBytes.{Appends}
use Rattle.nm_requests.specs.Calls.{Call}
use Rattle.nm_steps.specs.declared.trace_error.TraceError.{TraceError}
use Rattle.nm_steps.specs.declared.trace_error.TraceError.TheVariants.{BadMachine, BadStep, NotJson, ReadFault, WriteFault}
use Rattle.nm_steps.specs.declared.trace_error.TraceError.TheVariants as trace
use Rattle.nm_streams.proofs.Known.{appends_more}
use Rattle.nm_streams.proofs.Waits.{breaks_before, breaks_behind}
use Rattle.nm_trace.specs.definitions.Session.{SessionState, Steps, next_call, next, next_lines}
use Rattle.numatrace_session.specs.declared.End.{End}
use Rattle.numatrace_session.specs.declared.End.TheVariants.{BadTop, HostMemory, Stream}
use Rattle.numatrace_session.specs.Replies.{session_after, bad_step_reply, not_json_reply, reply_of, Replies, RepliesFault, Writes}

-- two texts, one after another
pub written_both : (old mid new : Option (List ℕ)) (failed failed_then fails : Bool) (first second : List ℕ) (result : Result (Unit {0}) End)
    → Appends old mid first × (failed_then ≡ failed) → Writes mid new failed_then fails second result → Writes old new failed fails (first ++ second) result
written_both old mid new failed failed_then fails first second (Ok done) f w = (appends_more old mid new first second f.0 w.0, w.1 ∙ f.1)
written_both old mid new failed failed_then fails first second (Err (BadTop fault)) f w = absurd w
written_both old mid new failed failed_then fails first second (Err HostMemory) f w = absurd w
written_both old mid new failed failed_then fails first second (Err Stream) f w =
    (breaks_behind old mid new first second (first ++ second) refl f.0 w.0, w.1)

-- the first of them breaks off
broken_first : (old new : Option (List ℕ)) (failed fails : Bool) (first second : List ℕ) (e : End)
    → Writes old new failed fails first (Err e) → Writes old new failed fails (first ++ second) (Err e)
broken_first old new failed fails first second (BadTop fault) w = absurd w
broken_first old new failed fails first second HostMemory w = absurd w
broken_first old new failed fails first second Stream w = (breaks_before old new first second w.0, w.1)

-- and a question mark hands that on
pub broken_off : (old new : Option (List ℕ)) (failed fails : Bool) (first second : List ℕ) (e : End) (r : Result (Unit {0}) End)
    → IsErr r × IsErrAnd r (λ x. x ≡ e) → Writes old new failed fails first (Err e) → Writes old new failed fails (first ++ second) r
broken_off old new failed fails first second e (Ok done) h w = absurd (cc)
broken_off old new failed fails first second e (Err x) h w =
    let same : x ≡ e = h.1 in
    subst (λ (y : End). Writes old new failed fails (first ++ second) (Err y)) (sym same) (broken_first old new failed fails first second e w)

-- a text with a number, given by its digits, and another text
pub number_written : (old mid new : Option (List ℕ)) (failed failed_then fails : Bool) (front digits number more : List ℕ) (result : Result (Unit {0}) End) → digits ≡ number
    → Appends old mid (front ++ digits) × (failed_then ≡ failed) → Writes mid new failed_then fails more result → Writes old new failed fails ((front ++ number) ++ more) result
number_written old mid new failed failed_then fails front digits number more result is f w =
    written_both old mid new failed failed_then fails (front ++ number) more result (subst (λ (t : List ℕ). Appends old mid (front ++ t)) is f.0, f.1) w

pub number_broken : (old new : Option (List ℕ)) (failed fails : Bool) (front digits number more : List ℕ) (e : End) (r : Result (Unit {0}) End) → digits ≡ number
    → IsErr r × IsErrAnd r (λ x. x ≡ e) → Writes old new failed fails (front ++ digits) (Err e) → Writes old new failed fails ((front ++ number) ++ more) r
number_broken old new failed fails front digits number more e r is h w =
    broken_off old new failed fails (front ++ number) more e r h (subst (λ (t : List ℕ). Writes old new failed fails (front ++ t) (Err e)) is w)

-- the reply was written
pub replied : (s t : SessionState) (line text : List ℕ) (old new : Option (List ℕ)) (failed fails : Bool) (result : Result (Unit {0}) End)
    → text ≡ reply_of s (next_call s line) → t ≡ session_after s (next_call s line) → Writes old new failed fails text result
    → Replies s t line old new failed fails result
replied s t line text old new failed fails (Ok done) is then w = (subst (λ (x : List ℕ). Writes old new failed fails x (Ok done)) is w, then)
replied s t line text old new failed fails (Err (BadTop fault)) is then w = absurd w
replied s t line text old new failed fails (Err HostMemory) is then w = absurd w
replied s t line text old new failed fails (Err Stream) is then w = (subst (λ (x : List ℕ). Writes old new failed fails x (Err Stream)) is w, then)

-- to a step
pub lines_are : (s : SessionState) (line lines : List ℕ) (call : Call) → next_call s line ≡ Ok call → lines ≡ next_lines s call
    → lines ++ 10 ∷ [] ≡ reply_of s (next_call s line)
lines_are s line lines call is e = subst (λ (a : Result Call TraceError). lines ++ 10 ∷ [] ≡ reply_of s a) (sym is) (ap (λ (xs : List ℕ). xs ++ 10 ∷ []) e)

pub made_is : (s t : SessionState) (line : List ℕ) (call : Call) → next_call s line ≡ Ok call → t ≡ next s call → t ≡ session_after s (next_call s line)
made_is s t line call is e = subst (λ (a : Result Call TraceError). t ≡ session_after s a) (sym is) e

pub kept_is : (s t : SessionState) (line : List ℕ) (fault : TraceError) → next_call s line ≡ Err fault → t ≡ s → t ≡ session_after s (next_call s line)
kept_is s t line fault is e = subst (λ (a : Result Call TraceError). t ≡ session_after s a) (sym is) e

-- a text that is written is not reported as lack of memory
pub no_memory : (old new : Option (List ℕ)) (failed fails : Bool) (text : List ℕ) (result : Result (Unit {0}) End) → Writes old new failed fails text result → result ≡ Err HostMemory → ⊥
no_memory old new failed fails text result w is = subst (Writes old new failed fails text) is w

-- and of faults only lack of memory is
pub memory_replied : (fault : TraceError) (old new : Option (List ℕ)) (failed fails : Bool) (result : Result (Unit {0}) End) → RepliesFault fault old new failed fails result
    → result ≡ Err HostMemory → (k : ℕ) × (fault ≡ trace.HostMemory k)
memory_replied (trace.HostMemory k) old new failed fails result w is = (k, refl)
memory_replied NotJson old new failed fails result w is = absurd (no_memory old new failed fails _ result w is)
memory_replied BadMachine old new failed fails result w is = absurd (no_memory old new failed fails _ result w is)
memory_replied (BadStep k) old new failed fails result w is = absurd (no_memory old new failed fails _ result w is)
memory_replied ReadFault old new failed fails result w is = absurd (no_memory old new failed fails _ result w is)
memory_replied WriteFault old new failed fails result w is = absurd (no_memory old new failed fails _ result w is)

-- it has the step's number
pub memory_of_step : (s t : SessionState) (line : List ℕ) (fault : TraceError) (k : ℕ) → Steps {V = Unit {0}} (λ _. []) s t line (Err fault) → fault ≡ trace.HostMemory k → fault ≡ trace.HostMemory s.steps
memory_of_step s t line fault k h is = is ∙ ap trace.HostMemory (subst (λ (f : TraceError). Steps {V = Unit {0}} (λ _. []) s t line (Err f)) is h).0

-- to what is no step; or memory is lacking
pub fault_replied : (s t : SessionState) (line : List ℕ) (fault : TraceError) (old new : Option (List ℕ)) (failed fails : Bool)
    (result : Result (Unit {0}) End) → Steps {V = Unit {0}} (λ _. []) s t line (Err fault) → RepliesFault fault old new failed fails result
    → Replies s t line old new failed fails result
fault_replied s t line NotJson old new failed fails result h w =
    replied s t line not_json_reply old new failed fails result
    (subst (λ (a : Result Call TraceError). not_json_reply ≡ reply_of s a) (sym h.0) refl) (kept_is s t line NotJson h.0 h.1) w
fault_replied s t line BadMachine old new failed fails result h w = absurd h
fault_replied s t line (BadStep k) old new failed fails result h w =
    replied s t line (bad_step_reply k) old new failed fails result
    (subst (λ (a : Result Call TraceError). bad_step_reply k ≡ reply_of s a) (sym h.0) refl) (kept_is s t line (BadStep k) h.0 h.1) w
fault_replied s t line ReadFault old new failed fails result h w = absurd h
fault_replied s t line WriteFault old new failed fails result h w = absurd h
fault_replied s t line (trace.HostMemory k) old new failed fails (Ok done) h w = let bad = w.0 in absurd (cc)
fault_replied s t line (trace.HostMemory k) old new failed fails (Err (BadTop fault)) h w = let bad = w.0 in absurd (cc)
fault_replied s t line (trace.HostMemory k) old new failed fails (Err HostMemory) h w = (h.1, w.1, w.2)
fault_replied s t line (trace.HostMemory k) old new failed fails (Err Stream) h w = let bad = w.0 in absurd (cc)
