-- The requests of runs.
use Rattle.std.specs.Prelude.{List, map}
use Rattle.nm_runs.specs.declared.Run.{Run}
use Rattle.nm_model.specs.definitions.Cut.{Stretch}

-- the stretches of requests that runs are for
abbrev pub stretches_of : {A : Type 0} → List (Run A) → List Stretch
stretches_of runs = map (λ run. record { target = run.target; wanted = run.wanted.items }) runs
