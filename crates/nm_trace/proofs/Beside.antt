-- Calls beside a session's steps.
use Rattle.std.proofs.Common.{◌≡◌, ap, sym, ◌∙◌, inl, inr}
use Rattle.std.specs.Prelude.{Result, Ok, Err}
use Rattle.nm_passes.specs.declared.call_error.CallError.{CallError}
use Rattle.nm_passes.specs.declared.call_error.CallError.TheVariants.{Refused, HostMemory}
use Rattle.nm_calls.specs.definitions.Answers.{Answer}
use Rattle.nm_calls.specs.definitions.Does.{Does}
use Rattle.nm_calls.specs.definitions.Outcome.{Outcome}
use Rattle.nm_calls.specs.definitions.Systems.{SystemState}
use Rattle.nm_requests.specs.Calls.{Call}
use Rattle.nm_trace.proofs.Sessions.{outcome_limit}

-- no call changes the limit on runs
pub does_limit : {T : Type 0} (view : T → Answer) (r : Result T CallError) (old new : SystemState) (call : Call) → Does view r old new call → new.run_limit ≡ old.run_limit
does_limit view (Ok value) old new call does = ap (λ (o : Outcome). o.system.run_limit) (sym does) ∙ outcome_limit old call
does_limit view (Err (Refused e)) old new call does = ap (λ (o : Outcome). o.system.run_limit) (sym does) ∙ outcome_limit old call
does_limit view (Err (HostMemory runs policy_set)) old new call does =
    elim does.1 as (λ _. new.run_limit ≡ old.run_limit) [
      | inl same ↦ ap (λ (y : SystemState). y.run_limit) same.2
      | inr some ↦ ap (λ (y : SystemState). y.run_limit) some.2
    ]
