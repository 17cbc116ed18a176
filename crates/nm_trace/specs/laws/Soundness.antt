-- The states that calls lead to are sound.
use Rattle.std.specs.Prelude.{ℕ, List}
use Rattle.nm_types.specs.Layout.{Layout}
use Rattle.nm_model.specs.definitions.Sound.{IsSound}
use Rattle.nm_requests.specs.Calls.{Call}
use Rattle.nm_calls.specs.definitions.Systems.{system_with}
use Rattle.nm_trace.specs.definitions.Report.{state_after}

-- every state that calls lead to from a new machine is sound
abbrev pub StatesAreSound : Type 0
StatesAreSound = (layout : Layout) (limit : ℕ) (calls : List Call) → IsSound (state_after (system_with layout limit) calls).state
