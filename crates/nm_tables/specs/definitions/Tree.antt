-- The entries of a tree of parts.
use Rattle.std.specs.Prelude.{◌≡◌, ℕ, zero, suc, [], ◌∷◌, ◌++◌, Option, Some, None}
use Rattle.std.specs.List.{AllByRecursion}
use Rattle.std.specs.List.Sorted.{IsStrictlySortedBy}
use Rattle.std.specs.Map.{keys_of}
use Rattle.std.specs.Ordering.{nat_cmp}
use Rattle.nm_types.specs.Map.{Map}

module _ {V : Type 0} where
  -- the entries of all parts, one part after another
  abbrev pub flatten : Map ℕ (Map ℕ V) → Map ℕ V
  flatten [] = []
  flatten (part ∷ parts) = part.1 ++ flatten parts

  -- this entry, if there is one, and then those after it
  abbrev pub and_then : Option V → ℕ → Map ℕ V → Map ℕ V
  and_then None v rest = rest
  and_then (Some x) v rest = (v, x) ∷ rest

  -- the values of a function at this many numbers, from `v` on
  abbrev pub entries_from : (ℕ → Option V) → ℕ → ℕ → Map ℕ V
  entries_from f v zero = []
  entries_from f v (suc more) = and_then (f v) v (entries_from f (suc v) more)

  -- a map in key order whose keys all have this number
  abbrev pub IsPart : (ℕ → ℕ) → ℕ → Map ℕ V → Type 0
  IsPart number i part = IsStrictlySortedBy nat_cmp (keys_of part) × AllByRecursion (λ k. number k ≡ i) (keys_of part)

  -- parts in order, each with keys of its own number
  abbrev pub AreParts : (ℕ → ℕ) → Map ℕ (Map ℕ V) → Type 0
  AreParts number parts = IsStrictlySortedBy nat_cmp (keys_of parts) × AllByRecursion (λ e. IsPart number e.0 e.1) parts
