-- Runs, one after another: the states between them, and how a contract states what they report, or where they stop.
use Rattle.std.specs.Prelude.{◌≡◌, ℕ, ◌≤◌, ◌-◌, false, List, length, map, slice_index_or, Result, Ok, Err, ◌+◌, [], ◌∷◌}
use Rattle.std.specs.Map.{keys_of}
use Rattle.nm_types.specs.State.{State}
use Rattle.nm_model.specs.definitions.Cut.{Request, Stretch, cut_within}
use Rattle.nm_model.specs.definitions.Touch.{Access}
use Rattle.nm_model.specs.definitions.Run.{RunResult, failures, runs_from, batch, run, accesses_of}
use Rattle.nm_pool.specs.views.Accesses.{answer_shown}
use Rattle.nm_passes.specs.declared.call_error.CallError.{CallError}
use Rattle.nm_passes.specs.declared.call_error.CallError.TheVariants.{Refused, HostMemory}
use Rattle.nm_passes.specs.declared.moved.Moved.{Moved}
use Rattle.nm_passes.specs.definitions.Batch.{answers_in_order}

-- the states before, between and after runs numbered from k on, each with its accesses
abbrev pub states_from : ℕ → State → List Stretch → List (ℕ × Access) → List State
states_from k s [] accesses = s ∷ []
states_from k s (r ∷ rs) accesses =
    s ∷ states_from (k + 1) (run s r.target r.wanted (accesses_of k accesses)).state rs accesses

-- the states before, between and after runs without accesses
abbrev pub states_of : State → List Stretch → List State
states_of s rs = states_from 0 s rs []

-- what a call reports of its runs, and the state after them: the statuses, how many failed, and the answers, in the
-- order of the accesses, each of which names its run by one of these numbers
abbrev pub Reports : {A : Type 0} → Moved A → State → List ℕ → RunResult → Type 0
Reports moved new numbers made =
    (moved.statuses.items ≡ made.statuses) × (moved.failed ≡ failures made.statuses)
    × (map answer_shown moved.answers.items ≡ answers_in_order numbers made.answers) × (new ≡ made.state)

-- the host runs out of memory for one of these runs, after those before it
abbrev pub LacksMemory : CallError → State → State → List Stretch → List (ℕ × Access) → Type 0
LacksMemory (Refused e) old new runs during = ⊥
LacksMemory (HostMemory made policy_set) old new runs during =
    (policy_set ≡ false) × (made ≤ length runs - 1) × (new ≡ slice_index_or (states_from 0 old runs during) made old)

-- runs are made, each with its accesses; or the host runs out of memory for one of them
abbrev pub MovesRuns : {A : Type 0} → Result (Moved A) CallError → State → State → List Stretch → List (ℕ × Access) → Type 0
MovesRuns (Ok moved) old new runs during = Reports moved new (keys_of during) (runs_from 0 old runs during)
MovesRuns (Err e) old new runs during = LacksMemory e old new runs during

-- a batch is made under a limit, with these accesses; or the host runs out of memory for one of its runs
abbrev pub Moves : {A : Type 0} → Result (Moved A) CallError → State → State → ℕ → List Request → List (ℕ × Access) → Type 0
Moves (Ok moved) old new limit requests during =
    Reports moved new (keys_of during) (batch limit old requests during)
Moves (Err e) old new limit requests during = LacksMemory e old new (cut_within limit requests) during
