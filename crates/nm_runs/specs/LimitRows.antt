-- Worked cuts of batches into runs.
use Rattle.std.specs.Prelude.{◌≡◌, ℕ, List, [], ◌∷◌, map}
use Rattle.nm_model.specs.definitions.Cut.{cut, size_of}
use Rattle.nm_model.specs.definitions.Cut.{cut_within, for_nodes, run_count}

-- the lengths of the runs of a batch for these nodes
abbrev pub run_sizes : ℕ → List ℕ → List ℕ
run_sizes limit nodes = map size_of (cut_within limit (for_nodes nodes))

pub record CutRows : Type 0 where
  pub stretches : map size_of (cut (for_nodes (1 ∷ 1 ∷ 0 ∷ 1 ∷ 1 ∷ []))) ≡ 2 ∷ 1 ∷ 2 ∷ []
  pub none : run_sizes 2 [] ≡ []
  -- the first run is full, and what is left over is the last
  pub three_by_two : run_sizes 2 (1 ∷ 1 ∷ 1 ∷ []) ≡ 2 ∷ 1 ∷ []
  pub by_one : run_sizes 1 (1 ∷ 1 ∷ 0 ∷ []) ≡ 1 ∷ 1 ∷ 1 ∷ []
  -- each stretch is cut on its own
  pub two_stretches : run_sizes 2 (1 ∷ 1 ∷ 1 ∷ 0 ∷ 0 ∷ 1 ∷ []) ≡ 2 ∷ 1 ∷ 2 ∷ 1 ∷ []
  pub as_long_as_the_limit : run_sizes 3 (1 ∷ 1 ∷ 1 ∷ 0 ∷ []) ≡ 3 ∷ 1 ∷ []
  pub counted : run_count 2 (1 ∷ 1 ∷ 1 ∷ 0 ∷ 0 ∷ 1 ∷ []) ≡ 4
