-- Calls leave a sound system, with each frame in one place, and no move on the way changes a byte that a process reads.
use Rattle.std.proofs.Common.{◌≡◌, ℕ, zero, suc, ◌+◌, List, [], ◌∷◌, take, ap, subst, ◌∙◌, arith}
use Rattle.std.specs.Prelude.{Option, Some, slice_get, Result, Ok, length}
use Rattle.std.specs.Io.KnownBytes.{Appends}
use Rattle.nm_types.proofs.Cases.{some_is, none_some}
use Rattle.nm_model.specs.definitions.Memory.{mem}
use Rattle.nm_model.specs.definitions.Sound.{IsSound, each_frame_is_once}
use Rattle.nm_laws.proofs.Soundness.New.{new_sound}
use Rattle.nm_laws.proofs.Soundness.Sounded.{sound_is_audited}
use Rattle.nm_requests.specs.Calls.{Call}
use Rattle.nm_calls.specs.definitions.Outcome.{outcome}
use Rattle.nm_calls.specs.definitions.Systems.{SystemState, system_with}
use Rattle.nm_calls.proofs.CallLaws.BytesStay.{calls_keep_memory}
use Rattle.nm_calls.proofs.CallLaws.StaysSound.{calls_stay_sound}
use Rattle.nm_steps.specs.Faults.{TraceContents}
use Rattle.nm_trace.specs.definitions.Headline.{KeepMemory, IsPlayed}
use Rattle.nm_trace.specs.laws.Soundness.{StatesAreSound}
use Rattle.nm_trace.specs.definitions.Played.{Plays}
use Rattle.nm_trace.specs.definitions.Report.{report_from, state_after}
use Rattle.nm_trace.specs.declared.playing.Summary.{Summary}
use Rattle.nm_steps.specs.declared.trace_error.TraceError.{TraceError}

all_sound : (s : SystemState) (calls : List Call) → IsSound s.state → IsSound (state_after s calls).state
all_sound s [] h = h
all_sound s (call ∷ calls) h = all_sound (outcome s call).system calls (calls_stay_sound s call h)

pub states_are_sound : StatesAreSound
states_are_sound layout limit calls = all_sound (system_with layout limit) calls (new_sound layout)

-- the state after one more call
after_next : (s : SystemState) (calls : List Call) (k : ℕ) (call : Call) → slice_get calls k ≡ Some call → state_after s (take (k + 1) calls) ≡ (outcome (state_after s (take k calls)) call).system
after_next s [] k call h = absurd (none_some h)
after_next s (c ∷ calls) zero call h = ap (λ d. (outcome s d).system) (some_is h)
after_next s (c ∷ calls) (suc k) call h =
    let more : suc k + 1 ≡ suc (k + 1) = omega arith in
    ap (λ n. state_after s (take n (c ∷ calls))) more ∙ after_next (outcome s c).system calls k call h

keep_memory : (s : SystemState) (calls : List Call) → IsSound s.state → KeepMemory s calls
keep_memory s calls h k call q at here quiet =
    let before = state_after s (take k calls) in
    ap (λ (t : SystemState). mem t.state q at) (after_next s calls k call here) ∙ calls_keep_memory before call q at (all_sound s (take k calls) h) quiet

pub played : (plan : TraceContents) (s t : SystemState) (calls : List Call) (old new : Option (List ℕ)) (result : Result Summary TraceError) (summary : Summary)
    → s ≡ system_with plan.layout plan.run_limit → calls ≡ plan.calls → result ≡ Ok summary → Plays s calls t old new result → IsPlayed plan summary.steps t old new
played plan s t calls old new result summary start same done p =
    let q = subst (λ (r : Result Summary TraceError). Plays s calls t old new r) done p in
    let first = system_with plan.layout plan.run_limit in
    let state = q.1 ∙ (λ j. state_after (start j) (same j)) in
    record {
      whole = q.0 ∙ ap length same;
      report = subst (Appends old new) (λ j. report_from 0 (start j) (same j)) q.2;
      state = state;
      frames = ap (λ (u : SystemState). each_frame_is_once u.state) state ∙ sound_is_audited (state_after first plan.calls).state (states_are_sound plan.layout plan.run_limit plan.calls);
      memory = keep_memory first plan.calls (new_sound plan.layout);
    }
