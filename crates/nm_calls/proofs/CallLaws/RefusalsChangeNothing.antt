-- A call that is refused leaves the system as it was.
use Rattle.std.proofs.Common.{◌≡◌, ℕ, Bool, true, false, Option, Some, None, refl, ap, sym, inl, inr, ◌∙◌}
use Rattle.std.proofs.lemmas.Bool.{true≢false}
use Rattle.std.specs.Option.{is_some}
use Rattle.nm_types.specs.declared.errno.Errno.{Errno}
use Rattle.nm_model.specs.definitions.Touch as engine
use Rattle.nm_model.specs.definitions.Touch.{read, write}
use Rattle.nm_model.specs.definitions.Run.{RunResult}
use Rattle.nm_model.specs.definitions.Run.{runs_from}
use Rattle.nm_requests.specs.Calls.{Call, Spawn, MapPages, Attach, Unmap, Exit, Pin, Unpin, ReadBytes, WriteBytes, MovePages, MigratePages, Query, FreeList, Pagemap, Vmstat, NumaMaps, Mbind, Offline, Online}
use Rattle.nm_calls.specs.definitions.Answers.{Answer, Refusal, Done, Failed, NewSegment}
use Rattle.nm_calls.specs.definitions.Systems.{SystemState}
use Rattle.nm_calls.specs.definitions.Outcome.{refusal_in, access_answer, refusal_of, start, runs_asked, accesses_asked, end_of_call, unless, offline_outcome}
use Rattle.std.specs.Prelude.{◌⊎◌, ◌&&◌, if◌then◌else◌}
use Rattle.nm_types.specs.declared.errno.Errno.TheVariants.{Eio, Ebusy}
use Rattle.nm_calls.specs.definitions.Mbind.{binding, has_stray, checks_after_moves}
use Rattle.nm_types.specs.State.{State}
use Rattle.nm_calls.specs.definitions.Offline.{still_on}
use Rattle.nm_calls.specs.laws.Calls.{late_refusal}
use Rattle.nm_calls.specs.laws.Calls.{RefusalsChangeNothing}

-- why an answer is a refusal
abbrev error_of : Answer → Option Errno
error_of (Refusal e) = Some e
error_of answer = None

abbrev is_refusal : Answer → Bool
is_refusal answer = is_some (error_of answer)

some_none : (e : Errno) → Some e ≡ None → ⊥
some_none e h = true≢false (ap (λ (o : Option Errno). elim o [ Some d ↦ true | None ↦ false ]) h)

-- the answer to an access that is not refused is no refusal
access_answers : (a : engine.AccessAnswer) → refusal_in a ≡ None → is_refusal (access_answer a) ≡ false
access_answers (engine.Bytes bytes) h = refl
access_answers engine.Done h = refl
access_answers engine.Held h = refl
access_answers (engine.Refused e) h = absurd (some_none e h)

no_error : (a : Answer) (e : Errno) → is_refusal a ≡ false → a ≡ Refusal e → ⊥
no_error a e n is = true≢false (sym (ap is_refusal is) ∙ n)

-- EIO, or the answer of a call without failures
abbrev pub late_answer : Bool → Answer
late_answer late = if late then Refusal Eio else Failed 0

late_error : (strict strays : Bool) (e : Errno) → late_answer (strict && strays) ≡ Refusal e → (if strict then Some Eio else None) ≡ Some e
late_error true true e h = ap error_of h
late_error true false e h = absurd (no_error (Failed 0) e refl h)
late_error false strays e h = absurd (no_error (Failed 0) e refl h)

busy_error : (y : SystemState) (node : ℕ) (s : State) (stays : Bool) (e : Errno) → (offline_outcome y node s stays).answer ≡ Refusal e → Some Ebusy ≡ Some e
busy_error y node s true e h = ap error_of h
busy_error y node s false e h = absurd (no_error Done e refl h)

-- the answer of a call that is not refused at first is no refusal, but for the late one
call_answers : (y : SystemState) (call : Call) (made : RunResult) (e : Errno) → refusal_of y.state call ≡ None → (end_of_call y call made).answer ≡ Refusal e → late_refusal call ≡ Some e
unfolding end_of_call refusal_of
call_answers y (Spawn pid uid home allowed privileged) made e h is = absurd (no_error Done e refl is)
call_answers y (MapPages pid addr pages shared) made e h is = absurd (no_error (NewSegment y.state.next_segment) e refl is)
call_answers y (Attach pid addr segment offset pages) made e h is = absurd (no_error Done e refl is)
call_answers y (Unmap pid addr pages) made e h is = absurd (no_error Done e refl is)
call_answers y (Exit pid) made e h is = absurd (no_error Done e refl is)
call_answers y (Pin pid addr) made e h is = absurd (no_error Done e refl is)
call_answers y (Unpin pid addr) made e h is = absurd (no_error Done e refl is)
call_answers y (ReadBytes pid addr len) made e h is = absurd (no_error (access_answer (read y.state pid addr len).answer) e (access_answers (read y.state pid addr len).answer h) is)
call_answers y (WriteBytes pid addr bytes) made e h is = absurd (no_error (access_answer (write y.state pid addr bytes).answer) e (access_answers (write y.state pid addr bytes).answer h) is)
call_answers y (MovePages caller pid pages nodes flags during) made e h is = absurd (no_error _ e refl is)
call_answers y (MigratePages caller pid old new) made e h is = absurd (no_error _ e refl is)
call_answers y (Query caller pid pages flags) made e h is = absurd (no_error _ e refl is)
call_answers y (Mbind caller addr len mode nodes flags) made e h is =
    late_error (checks_after_moves flags) (has_stray y.state made.state (binding y.state caller addr len mode nodes)) e is
call_answers y (Offline node) made e h is = busy_error y node made.state (still_on y.state made.state node) e is
call_answers y (Online node) made e h is = absurd (no_error Done e refl is)
call_answers y (FreeList node) made e h is = absurd (no_error _ e refl is)
call_answers y (Pagemap pid) made e h is = absurd (no_error _ e refl is)
call_answers y Vmstat made e h is = absurd (no_error _ e refl is)
call_answers y (NumaMaps pid) made e h is = absurd (no_error _ e refl is)

by_refusal : (y : SystemState) (call : Call) (made : RunResult) (o : Option Errno) (e : Errno) → refusal_of y.state call ≡ o → (unless o y (end_of_call y call made)).answer ≡ Refusal e → ((unless o y (end_of_call y call made)).system ≡ y) ⊎ (late_refusal call ≡ Some e)
by_refusal y call made (Some d) e r h = inl refl
by_refusal y call made None e r h = inr (call_answers y call made e r h)

pub refusals_change_nothing : RefusalsChangeNothing
refusals_change_nothing y call e h = by_refusal y call (runs_from 0 (start y call) (runs_asked y call) (accesses_asked call)) (refusal_of y.state call) e refl h
