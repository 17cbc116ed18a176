-- What is left to say of a call that sets a policy, once its runs are made.
use Rattle.std.proofs.Common.{◌≡◌, ℕ, Bool, true, false, ◌&&◌, List, [], inr, refl, sym, if◌then◌else◌}
use Rattle.std.proofs.lemmas.Bool.{eq-eqb, false≢true, ne_eqb}
use Rattle.std.specs.Prelude.{◌==◌, IsTrue}
use Rattle.std.specs.List.{list_any}
use Rattle.nm_types.specs.State.{State}
use Rattle.nm_model.specs.definitions.Cut.{Stretch}
use Rattle.nm_passes.specs.declared.call_error.CallError.{CallError}
use Rattle.nm_passes.specs.declared.call_error.CallError.TheVariants.{Refused, HostMemory}
use Rattle.nm_passes.specs.declared.binding.Binding.{Binding}
use Rattle.nm_calls.specs.definitions.Mbind.{has_stray, is_strict, pages_to_bind, has_move, checks_after_moves}
use Rattle.nm_passes.specs.definitions.Placement.{is_stray, stray_pages}
use Rattle.nm_calls.specs.views.Ends.{FailsBinding}
use Rattle.nm_passes.specs.views.Runs.{Stops}

-- an error after the moves is returned exactly where a listed page strays then
pub late_is : (s t : State) (b : Binding) (flags : ℕ) → (is_strict flags && list_any (is_stray t b.policy) (pages_to_bind s b flags)) ≡ (checks_after_moves flags && has_stray s t b)
late_is s t b flags = elim (has_move flags) as (λ m. (is_strict flags && list_any (is_stray t b.policy) (if m then stray_pages s b else [])) ≡ ((is_strict flags && m) && has_stray s t b)) [
  | true ↦ strict (is_strict flags) (has_stray s t b)
  | false ↦ lenient (is_strict flags) (has_stray s t b)
]
  where
    strict : (x y : Bool) → (x && y) ≡ ((x && true) && y)
    strict true y = refl
    strict false y = refl

    lenient : (x y : Bool) → (x && false) ≡ ((x && false) && y)
    lenient true y = refl
    lenient false y = refl

-- a call stops where one of its runs does
pub stops_fail : (e : CallError) (old set new : State) (b : Binding) (runs : List Stretch) (flags : ℕ) → Stops true e set new runs → FailsBinding e old set new b runs flags
stops_fail (Refused e) old set new b runs flags h = absurd h
stops_fail (HostMemory k policy_set) old set new b runs flags h = inr h

-- a flag is found exactly where its bit is 1
pub flag_is : (found : Bool) (n : ℕ) → (IsTrue found → n ≡ 1) × (n ≡ 1 → IsTrue found) → found ≡ (n == 1)
flag_is true n h = sym (eq-eqb n 1 (h.0 refl))
flag_is false n h = sym (ne_eqb n 1 (λ e. false≢true (h.1 e)))
