-- The trail of a call: its states are those after its first runs.
use Rattle.std.proofs.Common.{List, [], Option, if◌then◌else◌}
use Rattle.std.specs.Option.{is_some}
use Rattle.nm_types.specs.declared.errno.Errno.{Errno}
use Rattle.nm_types.specs.State.{State}
use Rattle.nm_model.specs.definitions.Cut.{Stretch}
use Rattle.nm_calls.specs.definitions.Outcome.{runs_of, accesses_asked, state_before_runs}
use Rattle.nm_calls.specs.laws.Calls.{TrailIsAfterRuns}
use Rattle.nm_passes.proofs.Trails.{states_are}

-- these runs, or none if there is a refusal
abbrev pub runs_unless : Option Errno → List Stretch → List Stretch
runs_unless o runs = if is_some o then [] else runs

-- the first state if there is a refusal, otherwise the second
abbrev pub state_unless : Option Errno → State → State → State
state_unless o s t = if is_some o then s else t

pub trail_is_after_runs : TrailIsAfterRuns
trail_is_after_runs y call n d h = states_are 0 (state_before_runs y call) (runs_of y call) (accesses_asked call) n d h
