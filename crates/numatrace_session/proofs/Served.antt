-- What a talk says once the replies that wait are flushed.
use Rattle.std.proofs.Common.{◌≡◌, ℕ, Bool, true, List, [], Option, Some, None, Result, Ok, Err, refl, ◌∙◌, inl, inr}
use Rattle.std.specs.Prelude.{IfErr, OnOk}
use Rattle.std.specs.Io.BufRead.{DropsThrough}
use Rattle.std.specs.Io.KnownBytes.{Keeps}
use Rattle.nm_steps.specs.declared.trace_error.TraceError.{TraceError}
use Rattle.nm_trace.specs.definitions.Session.{SessionState}
use Rattle.nm_streams.proofs.Known.{appends_kept}
use Rattle.numatrace_session.specs.declared.End.{End}
use Rattle.numatrace_session.specs.declared.End.TheVariants.{BadTop, HostMemory, Stream}
use Rattle.numatrace_session.specs.Replies.{replies_to, EndsBegun, EndsEarly, EndsFlushed, EndsTalk, IsRefused, ReachesEnd, Talks, WritesReplies}

-- what was written stays
pub talks_kept : {X E : Type 0} (a b old new newer : Option (List ℕ)) (result : Result X E) → OnOk result (Talks a b old new) → Keeps new newer → OnOk result (Talks a b old newer)
talks_kept a b old new newer (Ok done) h kept = (h.0, h.1, h.2, h.3, h.4, appends_kept old new newer (replies_to h.1 h.2) h.5 kept, h.6)
talks_kept a b old new newer (Err e) h kept = tt

refused_kept : (a b old new newer : Option (List ℕ)) (fault : TraceError) → IsRefused a b old new fault → Keeps new newer → IsRefused a b old newer fault
refused_kept a b old new newer fault h kept = (h.0, h.1, h.2, appends_kept old new newer [] h.3 kept)

-- .. also where the session ends early
written_kept : (s : SessionState) (lines : List (List ℕ)) (a b old new newer : Option (List ℕ)) (reader failed mid fails : Bool)
    → WritesReplies s lines a b old new reader failed mid → Keeps new newer → fails ≡ mid → WritesReplies s lines a b old newer reader failed fails
written_kept s lines a b old new newer reader failed mid fails (inl h) kept same =
    inl (appends_kept old new newer (replies_to s lines) h.0 kept, same ∙ h.1, h.2)
written_kept s lines a b old new newer reader failed mid fails (inr h) kept same =
    inr (h.0, h.1, h.2, appends_kept old new newer h.0 h.3 kept, same ∙ h.4, h.5, h.6)

early_kept : (end : End) (s : SessionState) (a b old new newer : Option (List ℕ)) (reader failed mid fails : Bool) → EndsEarly end s a b old new reader failed mid
    → Keeps new newer → fails ≡ mid → EndsEarly end s a b old newer reader failed fails
early_kept (BadTop fault) s a b old new newer reader failed mid fails h kept same = absurd h
early_kept HostMemory s a b old new newer reader failed mid fails h kept same =
    (h.0, h.1, h.2, appends_kept old new newer (replies_to s h.0) h.3 kept, same ∙ h.4)
early_kept Stream s a b old new newer reader failed mid fails h kept same =
    (h.0, h.1, h.2, written_kept s h.0 a b old new newer reader failed mid fails h.3 kept same)

begun_kept : (end : End) (a b old new newer : Option (List ℕ)) (reader failed mid fails : Bool) → EndsBegun end a b old new reader failed mid → Keeps new newer
    → fails ≡ mid → EndsBegun end a b old newer reader failed fails
begun_kept end a b old new newer reader failed mid fails h kept same =
    (h.0, h.1, h.2, h.3, h.4, early_kept end h.1 h.2 b old new newer reader failed mid fails h.5 kept same)

talk_kept : (end : End) (a b old new newer : Option (List ℕ)) (reader failed mid fails : Bool) → EndsTalk end a b old new reader failed mid → Keeps new newer
    → fails ≡ mid → EndsTalk end a b old newer reader failed fails
talk_kept (BadTop fault) a b old new newer reader failed mid fails h kept same = (refused_kept a b old new newer fault h.0 kept, same ∙ h.1)
talk_kept HostMemory a b old new newer reader failed mid fails (inl h) kept same = inl (h.0, appends_kept old new newer [] h.1 kept, same ∙ h.2)
talk_kept HostMemory a b old new newer reader failed mid fails (inr h) kept same =
    inr (begun_kept HostMemory a b old new newer reader failed mid fails h kept same)
talk_kept Stream a b old new newer reader failed mid fails (inl h) kept same =
    inl ((h.0.0, appends_kept old new newer [] h.0.1 kept, same ∙ h.0.2), h.1)
talk_kept Stream a b old new newer reader failed mid fails (inr h) kept same =
    inr (begun_kept Stream a b old new newer reader failed mid fails h kept same)

flushed : (end : End) (a b old new : Option (List ℕ)) (reader failed fails : Bool) → EndsTalk end a b old new reader failed fails
    → EndsFlushed end a b old new reader failed fails
flushed (BadTop fault) a b old new reader failed fails h = h
flushed HostMemory a b old new reader failed fails h = h
flushed Stream a b old new reader failed fails h = inl h

pub ends_kept : {X : Type 0} (a b old new newer : Option (List ℕ)) (reader failed mid fails : Bool) (result : Result X End)
    → IfErr result (λ e. EndsTalk e a b old new reader failed mid) → Keeps new newer → fails ≡ mid
    → IfErr result (λ e. EndsFlushed e a b old newer reader failed fails)
ends_kept a b old new newer reader failed mid fails (Ok done) h kept same = tt
ends_kept a b old new newer reader failed mid fails (Err end) h kept same =
    flushed end a b old newer reader failed fails (talk_kept end a b old new newer reader failed mid fails h kept same)

-- replies that wait and cannot be flushed, however the talk ended
pub ends_lost : {X : Type 0} (a b old new newer : Option (List ℕ)) (reader failed mid fails : Bool) (result : Result X End)
    → OnOk result (Talks a b old new) → IfErr result (λ e. EndsTalk e a b old new reader failed mid) → Keeps new newer → fails ≡ true
    → EndsFlushed Stream a b old newer reader failed fails
ends_lost a b old new newer reader failed mid fails (Ok done) talks early kept is_so = inr (is_so, inl (talks_kept {E = End} a b old new newer (Ok done) talks kept))
ends_lost a b old new newer reader failed mid fails (Err end) talks early kept is_so =
    inr (is_so, inr (end, mid, talk_kept end a b old new newer reader failed mid mid early kept refl))

-- ---- the first line

-- where what is left after it is read to its end, all is
pub reaches_end : (a b c : Option (List ℕ)) (result : Result (Unit {0}) End) → DropsThrough a b 10 → ReachesEnd result b c → ReachesEnd result a c
reaches_end a b c (Err e) first h = tt
reaches_end None b c (Ok done) first h = tt
reaches_end (Some xs) None c (Ok done) first h = absurd (cc)
reaches_end (Some xs) (Some ys) c (Ok done) first h = h
