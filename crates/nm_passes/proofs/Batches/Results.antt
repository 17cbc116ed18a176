-- The result of the runs of a batch, as stated by the functions that make them.
use Rattle.std.proofs.Common.{◌≡◌, ℕ, zero, suc, ◌<◌, true, false, List, [], refl, sym, ap, subst, ◌∙◌, arith, Result, Ok, Err}
use Rattle.std.specs.Prelude.{OnErr}
use Rattle.std.specs.Result.{IsErrAnd}
use Rattle.std.proofs.lemmas.Result.{err_from_is_err_and}
use Rattle.nm_types.specs.State.{State}
use Rattle.nm_model.specs.definitions.Cut.{Request, Stretch, cut_within}
use Rattle.nm_model.specs.definitions.Run.{RunResult, runs_from}
use Rattle.nm_model.specs.definitions.Touch.{Access}
use Rattle.nm_passes.specs.declared.call_error.CallError.{CallError}
use Rattle.nm_passes.specs.declared.moved.Moved.{Moved}
use Rattle.nm_passes.specs.views.Errors.{out_of_memory}
use Rattle.nm_passes.specs.definitions.Moves.{LacksMemory, Moves, MovesRuns}
use Rattle.nm_passes.specs.views.Runs.{Batches, RunsGive}
use Rattle.nm_passes.proofs.Trails.{first_state}

-- the error that a question mark hands on
pub err_of : {T : Type 0} (r : Result T CallError) (e : CallError) → IsErrAnd r (λ x. x ≡ e) → r ≡ Err e
err_of r e h = let p = err_from_is_err_and r h in p.1 ∙ ap (λ (x : CallError). Err x) p.2

-- what holds anyway holds after an error
pub on_err : {T E P : Type 0} (r : Result T E) → P → OnErr r P
on_err (Ok value) p = tt
on_err (Err e) p = p

-- a list that takes memory has room for some
pub takes_some : (n : ℕ) → (n ≡ 0 → false ≡ true) → 0 < n
takes_some zero h = let e = h refl in absurd (cc)
takes_some (suc n) h = omega arith

-- no memory before the first run: of runs ..
none_lacks : (s : State) (rs : List Stretch) (during : List (ℕ × Access)) → LacksMemory (out_of_memory 0) s s rs during
none_lacks s rs during = (refl, omega arith, first_state s rs during)

pub none_ran : {A : Type 0} (r : Result (Moved A) CallError) (s : State) (rs : List Stretch) (during : List (ℕ × Access)) → IsErrAnd r (λ e. e ≡ out_of_memory 0) → MovesRuns r s s rs during
none_ran r s rs during h = subst (λ r. MovesRuns r s s rs during) (sym (err_of r (out_of_memory 0) h)) (none_lacks s rs during)

pub none_given : {T : Type 0} (r : Result T CallError) (s : State) (rs : List Stretch) (Gives : T → RunResult → Type 0) → IsErrAnd r (λ e. e ≡ out_of_memory 0) → RunsGive r s s rs Gives
none_given r s rs Gives h = subst (λ r. RunsGive r s s rs Gives) (sym (err_of r (out_of_memory 0) h)) (none_lacks s rs [])

-- .. and of a batch
pub none_moved : {A : Type 0} (r : Result (Moved A) CallError) (s : State) (limit : ℕ) (es : List Request) (during : List (ℕ × Access)) → IsErrAnd r (λ e. e ≡ out_of_memory 0) → Moves r s s limit es during
none_moved r s limit es during h =
    subst (λ r. Moves r s s limit es during) (sym (err_of r (out_of_memory 0) h)) (none_lacks s (cut_within limit es) during)

pub none_batched : {T : Type 0} (r : Result T CallError) (s : State) (limit : ℕ) (es : List Request) (Gives : T → RunResult → Type 0) → IsErrAnd r (λ e. e ≡ out_of_memory 0) → Batches r s s limit es Gives
none_batched r s limit es Gives h =
    subst (λ r. Batches r s s limit es Gives) (sym (err_of r (out_of_memory 0) h)) (none_lacks s (cut_within limit es) [])

-- the same runs, and the same accesses
ran_same : {A : Type 0} (r : Result (Moved A) CallError) (old new : State) (rs qs : List Stretch) (during asked : List (ℕ × Access)) → rs ≡ qs → during ≡ asked → MovesRuns r old new rs during → MovesRuns r old new qs asked
ran_same r old new rs qs during asked runs same h =
    subst (λ l. MovesRuns r old new l asked) runs (subst (MovesRuns r old new rs) same h)

-- the runs of a batch are made
by_batch : {A : Type 0} (r : Result (Moved A) CallError) (old new : State) (limit : ℕ) (es : List Request) (during : List (ℕ × Access)) → MovesRuns r old new (cut_within limit es) during → Moves r old new limit es during
by_batch (Ok moved) old new limit es during h = h
by_batch (Err e) old new limit es during h = h

pub batch_moved : {A : Type 0} (r : Result (Moved A) CallError) (old new : State) (rs : List Stretch) (limit : ℕ) (es : List Request) (during asked : List (ℕ × Access)) → rs ≡ cut_within limit es → during ≡ asked → MovesRuns r old new rs during → Moves r old new limit es asked
batch_moved r old new rs limit es during asked runs same h =
    by_batch r old new limit es asked (ran_same r old new rs (cut_within limit es) during asked runs same h)

pub batch_given : {T : Type 0} (r : Result T CallError) (old new : State) (rs : List Stretch) (limit : ℕ) (es : List Request) (Gives : T → RunResult → Type 0) → rs ≡ cut_within limit es → RunsGive r old new rs Gives → Batches r old new limit es Gives
batch_given (Ok value) old new rs limit es Gives runs h = subst (λ l. RunsGive (Ok value) old new l Gives) runs h
batch_given {T = T} (Err e) old new rs limit es Gives runs h = subst (λ l. RunsGive {T = T} (Err e) old new l Gives) runs h

-- runs without accesses: their state, and their statuses
pub ran_without : {A : Type 0} (moved : Moved A) (old new : State) (rs qs : List Stretch) (during : List (ℕ × Access)) → rs ≡ qs → during ≡ [] → MovesRuns (Ok moved) old new rs during
    → (new ≡ (runs_from 0 old qs []).state) × (moved.statuses.items ≡ (runs_from 0 old qs []).statuses)
ran_without moved old new rs qs during runs none h =
    let all = ran_same (Ok moved) old new rs qs during [] runs none h in
    (all.3, all.0)

-- no memory for one of them ..
pub runs_stopped : {A T : Type 0} (m : Result (Moved A) CallError) (r : Result T CallError) (e : CallError) (old new : State) (rs qs : List Stretch) (during : List (ℕ × Access)) (Gives : T → RunResult → Type 0) → m ≡ Err e → IsErrAnd r (λ x. x ≡ e) → rs ≡ qs → during ≡ [] → MovesRuns m old new rs during → RunsGive r old new qs Gives
runs_stopped m r e old new rs qs during Gives is err runs none h =
    let all = ran_same m old new rs qs during [] runs none h in
    subst (λ r. RunsGive r old new qs Gives) (sym (err_of r e err)) (subst (λ m. MovesRuns m old new qs []) is all)

-- .. as the function that makes a batch of them reports
pub batch_stopped : {T U : Type 0} (m : Result T CallError) (r : Result U CallError) (e : CallError) (old new : State) (rs : List Stretch) (limit : ℕ) (es : List Request) (Gives : T → RunResult → Type 0) (Tells : U → RunResult → Type 0) → m ≡ Err e → IsErrAnd r (λ x. x ≡ e) → rs ≡ cut_within limit es → RunsGive m old new rs Gives → Batches r old new limit es Tells
batch_stopped m r e old new rs limit es Gives Tells is err runs h =
    subst (λ r. Batches r old new limit es Tells) (sym (err_of r e err))
    (subst (λ l. LacksMemory e old new l []) runs (subst (λ m. RunsGive m old new rs Gives) is h))
