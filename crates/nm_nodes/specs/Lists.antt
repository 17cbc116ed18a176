-- The pool of a list of free lists, each with the number of frames that its node owns.
use Rattle.std.specs.Prelude.{ℕ, List, map}
use Rattle.nm_model.specs.definitions.Frames.{Pool}

abbrev pub sizes_of : List (ℕ × List ℕ) → List ℕ
sizes_of rows = map (λ row. row.0) rows

abbrev pub lists_of : List (ℕ × List ℕ) → List (List ℕ)
lists_of rows = map (λ row. row.1) rows

abbrev pub pool_of_lists : List (ℕ × List ℕ) → Pool
pool_of_lists rows = record { sizes = sizes_of rows; lists = lists_of rows }
