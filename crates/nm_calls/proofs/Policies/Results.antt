-- The result of a call that sets a policy.
use Rattle.std.proofs.Common.{◌≡◌, ◌<◌, ◌≤◌, ◌+◌, ◌^◌, ℕ, Bool, true, false, ◌&&◌, Some, None, List, [], inl, inr, length, refl, sym, ap, subst, ◌∙◌, arith, slice_index_or, Result, Ok, Err}
use Rattle.std.specs.Prelude.{◌-◌}
use Rattle.std.specs.Result.{IsErr, IsErrAnd}
use Rattle.std.proofs.lemmas.Bool.{false≢true}
use Rattle.nm_types.specs.declared.errno.Errno.{Errno}
use Rattle.nm_types.specs.State.{State}
use Rattle.nm_model.specs.definitions.Cut.{Stretch}
use Rattle.nm_model.specs.definitions.Run.{runs_from}
use Rattle.nm_model.specs.definitions.Effect.{page_count}
use Rattle.nm_passes.specs.declared.call_error.CallError.{CallError}
use Rattle.nm_passes.specs.declared.call_error.CallError.TheVariants.{Refused, HostMemory}
use Rattle.nm_requests.specs.Calls.{Call, Mbind}
use Rattle.nm_calls.specs.definitions.Answers.{Refusal, Failed}
use Rattle.nm_calls.specs.definitions.Systems.{SystemState, in_state}
use Rattle.nm_calls.specs.definitions.Mbind.{mbind_refusal, binding, mbind_runs, with_binding, checks_after_moves, has_stray}
use Rattle.nm_calls.specs.definitions.Outcome.{refusal_of, refused_at_once, start, sets_policy, runs_asked, accesses_asked, runs_of, end_of_call, outcome, leaves, trail}
use Rattle.nm_passes.specs.definitions.Moves.{states_of}
use Rattle.nm_calls.specs.definitions.Does.{Does}
use Rattle.nm_passes.specs.views.Runs.{Stops}
use Rattle.nm_calls.specs.views.Ends.{Binds}
use Rattle.nm_passes.proofs.Trails.{states_are}
use Rattle.nm_calls.proofs.Trails.{runs_unless, state_unless}
use Rattle.nm_calls.proofs.Outcomes.{LeavesSome, answers, refuses}
use Rattle.nm_calls.proofs.CallLaws.RefusalsChangeNothing.{late_answer}

-- a length of 64 bits has at most 2^52 pages
pub pages_few : (first len : ℕ) → len < 2 ^ 64 → first + page_count len - first ≤ 2 ^ 52
pages_few first len lt = omega (arith, lt)

module _ (y : SystemState) (caller addr len mode : ℕ) (nodes : List ℕ) (flags : ℕ) where
  abbrev asks : Call
  asks = Mbind caller addr len mode nodes flags

  abbrev first : State
  first = with_binding y.state caller addr len mode nodes

  abbrev runs : List Stretch
  runs = mbind_runs y.run_limit first (binding y.state caller addr len mode nodes) flags

  refused_none : mbind_refusal y.state caller addr len mode nodes flags ≡ None → refusal_of y.state asks ≡ None
  unfolding refusal_of
  refused_none h = h

  at_once_none : mbind_refusal y.state caller addr len mode nodes flags ≡ None → refused_at_once y.state asks ≡ None
  unfolding refusal_of refused_at_once
  at_once_none h = h

  sets : sets_policy asks ≡ true
  unfolding sets_policy
  sets = refl

  runs_are : mbind_refusal y.state caller addr len mode nodes flags ≡ None → runs_of y asks ≡ runs
  unfolding refusal_of runs_asked
  runs_are h = ap (λ o. runs_unless o runs) h

  trail_is : mbind_refusal y.state caller addr len mode nodes flags ≡ None → trail y asks ≡ states_of first runs
  unfolding refusal_of runs_asked start accesses_asked
  trail_is h = ap (λ o. states_of (state_unless o y.state first) (runs_unless o runs)) h

  -- where the pages stray, or do not
  answered : (late : Bool) (new : State) → mbind_refusal y.state caller addr len mode nodes flags ≡ None
      → (checks_after_moves flags && has_stray y.state (runs_from 0 first runs []).state (binding y.state caller addr len mode nodes)) ≡ late → new ≡ (runs_from 0 first runs []).state
      → outcome y asks ≡ record { answer = late_answer late; system = in_state y new }
  unfolding refusal_of runs_asked start end_of_call accesses_asked
  answered late new h strays is =
      answers y asks (record { answer = late_answer late; system = in_state y new }) h
      (ap (λ b. leaves y (late_answer b) (runs_from 0 first runs []).state) strays ∙ ap (λ s. leaves y (late_answer late) s) (sym is))

  stopped_at : (k : ℕ) (policy_set : Bool) (new : State) → mbind_refusal y.state caller addr len mode nodes flags ≡ None
      → Stops true (HostMemory k policy_set) first new runs → LeavesSome y asks k policy_set (in_state y new)
  stopped_at k policy_set new h made =
      let lt = made.1 in
      let few : k < length (runs_of y asks) = subst (λ rs. k < length rs) (sym (runs_are h)) lt in
      let there : slice_index_or (states_of first runs) k first ≡ slice_index_or (trail y asks) k y.state =
      states_are 0 first runs [] k first (omega (arith, lt)) ∙ sym (states_are 0 first runs [] k y.state (omega (arith, lt)))
      ∙ sym (ap (λ ss. slice_index_or ss k y.state) (trail_is h)) in
      inr (few, made.0 ∙ sym sets, ap (in_state y) (made.2 ∙ there))

  -- so a call does what its definition says
  pub binds_does : {T : Type 0} (r : Result T CallError) (new : State) → mbind_refusal y.state caller addr len mode nodes flags ≡ None
      → Binds r y.state first new (binding y.state caller addr len mode nodes) runs flags → Does (λ done. Failed 0) r y (in_state y new) asks
  binds_does (Ok done) new h b = answered false new h b.0 b.1
  binds_does (Err (Refused e)) new h b = answered true new h b.0 b.2 ∙ ap (λ e. record { answer = Refusal e; system = in_state y new }) (sym b.1)
  binds_does (Err (HostMemory k policy_set)) new h (inl b) = (at_once_none h, inl (b.0, b.1, ap (in_state y) b.2))
  binds_does (Err (HostMemory k policy_set)) new h (inr b) = (at_once_none h, stopped_at k policy_set new h b)

-- the error that a question mark hands on
err_is : {T : Type 0} (r : Result T CallError) (e : Errno) → IsErr r × IsErrAnd r (λ x. x ≡ Refused e) → r ≡ Err (Refused e)
err_is (Ok value) e h = absurd (false≢true h.0)
err_is (Err x) e h = ap (λ (x : CallError). Err x) h.1

-- a call that is refused
pub refuses_mbind : {T : Type 0} (y : SystemState) (caller addr len mode : ℕ) (nodes : List ℕ) (flags : ℕ) (r : Result T CallError) (e : Errno)
    → mbind_refusal y.state caller addr len mode nodes flags ≡ Some e → IsErr r × IsErrAnd r (λ x. x ≡ Refused e) → Does (λ done. Failed 0) r y y (Mbind caller addr len mode nodes flags)
unfolding refusal_of
refuses_mbind y caller addr len mode nodes flags r e h is =
    subst (λ r. Does (λ done. Failed 0) r y y (Mbind caller addr len mode nodes flags)) (sym (err_is r e is)) (refuses y (Mbind caller addr len mode nodes flags) e h)
