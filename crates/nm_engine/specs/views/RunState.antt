-- The parts of a machine together, also during a run.
use Rattle.std.specs.Prelude.{◌≡◌, ℕ, List, []}
use Rattle.nm_types.specs.State.{State}
use Rattle.nm_model.specs.definitions.Sound.{IsSoundInFlight}
use Rattle.nm_types.specs.Layout.{frame_count}

-- a state, the frames that belong to a run (of a prepared one, those taken for its pages), and its room for frames
pub record RunState : Type 0 where
  pub state : State
  pub left : List ℕ
  pub room : ℕ

-- the state is sound, and the reverse map has as many frames as the nodes
pub record IsSoundMachine (s : State) (left : List ℕ) (frames : ℕ) : Type 0 where
  pub sound : IsSoundInFlight s left
  pub as_many : frames ≡ frame_count s.layout

-- the state is sound, the reverse map has as many frames as the nodes, and no frame belongs to a run
pub record IsBetweenRuns (s : State) (left : List ℕ) (frames : ℕ) : Type 0 where
  pub kept : IsSoundMachine s left frames
  pub none : left ≡ []

-- only the state may change
abbrev pub with_state : RunState → State → RunState
with_state x s = record x { state = s }
