-- How a contract states that a call's answer and effect are those of its definition.
use Rattle.std.specs.Prelude.{◌≡◌, ◌⊎◌, ℕ, ◌<◌, Bool, false, length, None, Result, Ok, Err}
use Rattle.nm_types.specs.declared.errno.Errno.{Errno}
use Rattle.nm_passes.specs.declared.call_error.CallError.{CallError}
use Rattle.nm_passes.specs.declared.call_error.CallError.TheVariants.{Refused, HostMemory}
use Rattle.nm_requests.specs.Calls.{Call}
use Rattle.nm_calls.specs.definitions.Answers.{Answer, Refusal}
use Rattle.nm_calls.specs.definitions.Systems.{SystemState}
use Rattle.nm_calls.specs.definitions.Outcome.{refused_at_once, outcome, sets_policy, runs_of, after_runs}

-- a call that runs out of host memory is not refused at once, and leaves the system as it was, or as after some of
-- its first runs with the policy set, but never after the last run
abbrev pub HostLeaves : SystemState → Call → ℕ → Bool → SystemState → Type 0
HostLeaves old call runs policy_set new =
    (refused_at_once old.state call ≡ None)
    × (((runs ≡ 0) × (policy_set ≡ false) × (new ≡ old))
    ⊎ ((runs < length (runs_of old call)) × (policy_set ≡ sets_policy call) × (new ≡ after_runs old call runs)))

-- the answer and the system after the call are as defined, whether or not it is refused; or the host is out of memory
abbrev pub Does : {T : Type 0} → (T → Answer) → Result T CallError → SystemState → SystemState → Call → Type 0
Does view (Ok value) old new call = outcome old call ≡ record { answer = view value; system = new }
Does view (Err (Refused e)) old new call = outcome old call ≡ record { answer = Refusal e; system = new }
Does view (Err (HostMemory runs policy_set)) old new call = HostLeaves old call runs policy_set new

-- the answer and the system after a call that does not allocate are as defined, whether or not it is refused
abbrev pub DoesOrRefuses : {T : Type 0} → (T → Answer) → Result T Errno → SystemState → SystemState → Call → Type 0
DoesOrRefuses view (Ok value) old new call = outcome old call ≡ record { answer = view value; system = new }
DoesOrRefuses view (Err e) old new call = outcome old call ≡ record { answer = Refusal e; system = new }

-- the host may be out of memory only where this holds
abbrev pub AllocatesOnlyIf : {T : Type 0} → Result T CallError → Type 0 → Type 0
AllocatesOnlyIf result P = (runs : ℕ) (policy_set : Bool) → result ≡ Err (HostMemory runs policy_set) → P
