-- Sessions, step by step.
use Rattle.std.proofs.Common.{◌≡◌, ℕ, ◌+◌, Bool, true, false, List, [], ◌∷◌, ◌++◌, refl, ap, subst, ◌∙◌, inl, inr}
use Rattle.std.specs.Prelude.{◌⊎◌, Option, Some, None, Result, Ok}
use Rattle.std.specs.Option.{ok_or}
use Rattle.serde_json.specs.Data.{Data}
use Rattle.nm_types.specs.declared.errno.Errno.{Errno}
use Rattle.nm_types.specs.State.{State}
use Rattle.nm_model.specs.definitions.Run.{RunResult}
use Rattle.nm_model.specs.definitions.Run.{runs_from}
use Rattle.nm_requests.specs.Calls.{Call, Spawn, MapPages, Attach, Unmap, Exit, Pin, Unpin, ReadBytes, WriteBytes, MovePages, MigratePages, Query, FreeList, Pagemap, Vmstat, NumaMaps, Mbind, Offline, Online}
use Rattle.nm_calls.specs.definitions.Outcome.{Outcome, outcome, end_of_call, offline_outcome, unless, refusal_of, start, runs_asked, accesses_asked}
use Rattle.nm_calls.specs.definitions.Systems.{SystemState}
use Rattle.nm_steps.specs.declared.trace_error.TraceError.{TraceError}
use Rattle.nm_steps.specs.declared.trace_error.TraceError.TheVariants.{NotJson, BadStep, HostMemory}
use Rattle.nm_steps.specs.Form as form
use Rattle.std.specs.Str.{is_utf8}
use Rattle.nm_steps.specs.Faults.{◌>>=◌, value_of}
use Rattle.nm_steps.specs.Memory.{IsSomeText, NeedsMemory}
use Rattle.nm_steps.proofs.Utf8.{needs_some}
use Rattle.nm_trace.specs.definitions.Played.{StopsIn}
use Rattle.nm_trace.specs.definitions.Session.{SessionState, next_call, next, next_lines, StopsShort}
use Rattle.nm_trace.specs.laws.Sessions.{IsFed}

-- ---- no call changes the limit on runs

emptied_limit : (y : SystemState) (node : ℕ) (s : State) (stays : Bool) → (offline_outcome y node s stays).system.run_limit ≡ y.run_limit
emptied_limit y node s true = refl
emptied_limit y node s false = refl

ended_limit : (y : SystemState) (call : Call) (made : RunResult) → (end_of_call y call made).system.run_limit ≡ y.run_limit
unfolding end_of_call
ended_limit y (Spawn pid uid home allowed privileged) made = refl
ended_limit y (MapPages pid addr pages shared) made = refl
ended_limit y (Attach pid addr segment offset pages) made = refl
ended_limit y (Unmap pid addr pages) made = refl
ended_limit y (Exit pid) made = refl
ended_limit y (Pin pid addr) made = refl
ended_limit y (Unpin pid addr) made = refl
ended_limit y (ReadBytes pid addr len) made = refl
ended_limit y (WriteBytes pid addr bytes) made = refl
ended_limit y (MovePages caller pid pages nodes flags during) made = refl
ended_limit y (MigratePages caller pid old new) made = refl
ended_limit y (Query caller pid pages flags) made = refl
ended_limit y (Mbind caller addr len mode nodes flags) made = refl
ended_limit y (Offline node) made = emptied_limit y node made.state _
ended_limit y (Online node) made = refl
ended_limit y (FreeList node) made = refl
ended_limit y (Pagemap pid) made = refl
ended_limit y Vmstat made = refl
ended_limit y (NumaMaps pid) made = refl

unless_limit : (o : Option Errno) (y : SystemState) (r : Outcome) → r.system.run_limit ≡ y.run_limit → (unless o y r).system.run_limit ≡ y.run_limit
unless_limit (Some e) y r h = refl
unless_limit None y r h = h

pub outcome_limit : (y : SystemState) (call : Call) → (outcome y call).system.run_limit ≡ y.run_limit
outcome_limit y call =
    let made = runs_from 0 (start y call) (runs_asked y call) (accesses_asked call) in
    unless_limit (refusal_of y.state call) y (end_of_call y call made) (ended_limit y call made)

stops_limit : (y : SystemState) (call : Call) (t : SystemState) → StopsIn y call t → t.run_limit ≡ y.run_limit
stops_limit y call t stops =
    elim stops.2.1 as (λ _. t.run_limit ≡ y.run_limit) [
      | inl same ↦ ap (λ (u : SystemState). u.run_limit) same.2
      | inr some ↦ ap (λ (u : SystemState). u.run_limit) some.2
    ]

-- a call that stopped, or was made
pub step_limit : (y : SystemState) (call : Call) (t : SystemState) → StopsIn y call t ⊎ (t ≡ (outcome y call).system) → t.run_limit ≡ y.run_limit
step_limit y call t (inl stops) = stops_limit y call t stops
step_limit y call t (inr made) = ap (λ (u : SystemState). u.run_limit) made ∙ outcome_limit y call

-- ---- steps

-- the call of a value is that of its bytes
pub asked_is : (s : SessionState) (bytes : List ℕ) (d : Data) (limit : ℕ) (call : Call) → s.system.run_limit ≡ limit → ok_or (value_of bytes) NotJson ≡ Ok d
    → form.step_of limit d ≡ Some call → next_call s bytes ≡ Ok call
unfolding next_call
asked_is s bytes d limit call same value step =
    ap (λ (r : Result Data TraceError). r >>= (λ d. ok_or (form.step_of s.system.run_limit d) (BadStep s.steps))) value
    ∙ ap (λ n. ok_or (form.step_of n d) (BadStep s.steps)) same
    ∙ ap (λ o. ok_or o (BadStep s.steps)) step

-- bytes whose value needs memory are a text with a byte
pub text_of_memory : (room : ℕ) (bytes : List ℕ) → (is_utf8 bytes ≡ true) × NeedsMemory room bytes → IsSomeText bytes
text_of_memory room bytes needs = (needs.0, needs_some room bytes needs.1)

-- .. and so are those for whose value memory is refused
pub value_memory : (room n : ℕ) (bytes : List ℕ) (e : TraceError) → e ≡ HostMemory n → (e ≡ NotJson) ⊎ (e ≡ HostMemory 0) → (e ≡ HostMemory 0 → (is_utf8 bytes ≡ true) × NeedsMemory room bytes) → IsSomeText bytes
value_memory room n bytes e is (inl bad) is_so = absurd (cc)
value_memory room n bytes e is (inr memory) is_so = text_of_memory room bytes (is_so memory)

-- a call that is not counted
pub stopped : (x y : SessionState) (t : SystemState) (bytes : List ℕ) (call : Call) → x ≡ y → next_call x bytes ≡ Ok call
    → StopsIn x.system call t ⊎ (t ≡ (outcome x.system call).system)
    → (x.steps ≡ y.steps) × StopsShort y bytes (record { system = t; steps = x.steps })
stopped x y t bytes call is h is_so =
    subst (λ (z : SessionState). (x.steps ≡ z.steps) × StopsShort z bytes (record { system = t; steps = x.steps })) is
    (refl, (refl, inr (call, h, is_so)))

-- a call that is made is a step
pub stepped : (x y : SessionState) (t : SystemState) (bytes lines : List ℕ) (call : Call) → x ≡ y → next_call x bytes ≡ Ok call → lines ≡ next_lines x call
    → t ≡ (outcome x.system call).system
    → (c : Call) × (next_call y bytes ≡ Ok c) × (lines ≡ next_lines y c) × (record { system = t; steps = x.steps + 1 } ≡ next y c)
stepped x y t bytes lines call is h text made =
    subst
    (λ (z : SessionState). (c : Call) × (next_call z bytes ≡ Ok c) × (lines ≡ next_lines z c) × (record { system = t; steps = x.steps + 1 } ≡ next z c)) is
    (call, h, text, ap (λ (u : SystemState). record { system = u; steps = x.steps + 1 }) made)

-- ---- sessions report as traces do

pub fed : (s : SessionState) (calls : List Call) → IsFed s calls
fed s [] = record { lines = refl; system = refl }
fed s (call ∷ calls) =
    let rest = fed (next s call) calls in
    record { lines = ap (λ text. next_lines s call ++ text) rest.lines; system = rest.system }
