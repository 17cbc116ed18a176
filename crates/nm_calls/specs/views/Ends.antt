-- The results of calls that make runs, once they are ready: of setting a policy, and of emptying a node.
use Rattle.std.specs.Prelude.{◌≡◌, ◌⊎◌, ℕ, true, false, ◌&&◌, List, [], Result, Ok, Err}
use Rattle.nm_types.specs.declared.errno.Errno.TheVariants.{Eio, Ebusy}
use Rattle.nm_types.specs.State.{State}
use Rattle.nm_model.specs.definitions.Cut.{Stretch}
use Rattle.nm_model.specs.definitions.Run.{runs_from}
use Rattle.nm_model.specs.definitions.Effect.{set_online}
use Rattle.nm_passes.specs.declared.binding.Binding.{Binding}
use Rattle.nm_passes.specs.declared.call_error.CallError.{CallError}
use Rattle.nm_passes.specs.declared.call_error.CallError.TheVariants.{Refused, HostMemory}
use Rattle.nm_calls.specs.definitions.Mbind.{has_stray, checks_after_moves}
use Rattle.nm_calls.specs.definitions.Offline.{still_on}
use Rattle.nm_passes.specs.views.Runs.{Stops}

-- a page does not follow after the moves; or the host runs out of memory, before the policy is set or for one of the
-- runs
abbrev pub FailsBinding : CallError → State → State → State → Binding → List Stretch → ℕ → Type 0
FailsBinding (Refused e) old set new b runs flags =
    let made = runs_from 0 set runs [] in
    ((checks_after_moves flags && has_stray old made.state b) ≡ true) × (e ≡ Eio) × (new ≡ made.state)
FailsBinding (HostMemory k policy_set) old set new b runs flags =
    ((k ≡ 0) × (policy_set ≡ false) × (new ≡ old)) ⊎ Stops true (HostMemory k policy_set) set new runs

-- the result of a call whose arguments are not refused
abbrev pub Binds : {T : Type 0} → Result T CallError → State → State → State → Binding → List Stretch → ℕ → Type 0
Binds (Ok done) old set new b runs flags =
    let made = runs_from 0 set runs [] in
    ((checks_after_moves flags && has_stray old made.state b) ≡ false) × (new ≡ made.state)
Binds (Err e) old set new b runs flags = FailsBinding e old set new b runs flags

-- a page stays; or the host runs out of memory, before the first run or for one of the runs
abbrev pub Keeps : CallError → State → State → ℕ → List Stretch → Type 0
Keeps (Refused e) old new node runs =
    let made = runs_from 0 old runs [] in (still_on old made.state node ≡ true) × (e ≡ Ebusy) × (new ≡ made.state)
Keeps (HostMemory k policy_set) old new node runs =
    ((k ≡ 0) × (policy_set ≡ false) × (new ≡ old)) ⊎ Stops false (HostMemory k policy_set) old new runs

-- the result of emptying a node: it is offline, or still online
abbrev pub Empties : {T : Type 0} → Result T CallError → State → State → ℕ → List Stretch → Type 0
Empties (Ok done) old new node runs =
    let made = runs_from 0 old runs [] in
    (still_on old made.state node ≡ false) × (new ≡ set_online made.state node false)
Empties (Err e) old new node runs = Keeps e old new node runs
