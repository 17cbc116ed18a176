-- A system, as its calls see it.
use Rattle.std.specs.Prelude.{ℕ}
use Rattle.nm_types.specs.Layout.{Layout}
use Rattle.nm_types.specs.State.{State}
use Rattle.nm_model.specs.definitions.Effect.{new_machine}
use Rattle.nm_requests.specs.Calls.{default_limit}

-- the state of its machine, and the most requests that a run may have
pub record SystemState : Type 0 where
  pub state : State
  pub run_limit : ℕ

-- a new machine with these nodes, and this limit on runs
abbrev pub system_with : Layout → ℕ → SystemState
system_with layout limit = record { state = new_machine layout; run_limit = limit }

-- ... and with the default limit
abbrev pub new_system : Layout → SystemState
new_system layout = system_with layout default_limit

-- the system in another state
abbrev pub in_state : SystemState → State → SystemState
in_state y s = record { state = s; run_limit = y.run_limit }
