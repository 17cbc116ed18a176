-- Passes: all requests go to one node, and those that find no free frame go on to the next.
use Rattle.std.specs.Prelude.{ℕ, ℤ, List, [], ◌∷◌, ◌++◌, map}
use Rattle.std.specs.List.{filter, zip}
use Rattle.std.specs.Ordering.{int_eq}
use Rattle.nm_types.specs.declared.errno.Errno.TheVariants.{Enomem}
use Rattle.nm_types.specs.State.{State}
use Rattle.nm_types.specs.declared.request.Wanted.{Wanted}
use Rattle.nm_model.specs.definitions.Status.{code}
use Rattle.nm_model.specs.definitions.Cut.{Stretch, all_to}
use Rattle.nm_model.specs.definitions.Cut.{cut_within}
use Rattle.nm_model.specs.definitions.Run.{RunResult, batch}

-- the requests that found no free frame
abbrev pub short_of_frames : List Wanted → List ℤ → List Wanted
short_of_frames wanted statuses = map (λ e. e.0) (filter (λ e. int_eq e.1 (code Enomem)) (zip wanted statuses))

-- the runs of passes over nodes: each pass is one batch to one node, and requests without a free frame go on to the
-- next
abbrev pub passes : ℕ → State → List ℕ → List Wanted → List Stretch
passes limit s [] wanted = []
passes limit s (node ∷ nodes) wanted =
    let made : RunResult = batch limit s (all_to node wanted) [] in
    cut_within limit (all_to node wanted) ++ passes limit made.state nodes (short_of_frames wanted made.statuses)
