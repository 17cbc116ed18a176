-- A block on its own: one number with its slot.
use Rattle.std.proofs.Common.{◌≡◌, ℕ, [], ◌∷◌}
use Rattle.std.specs.List.Sorted.{IsStrictlySortedBy}
use Rattle.std.specs.Map.{keys_of}
use Rattle.std.specs.Ordering.{nat_cmp}
use Rattle.nm_types.specs.Map.{Map}
use Rattle.nm_tables.specs.definitions.Tree.{IsPart}

module _ {V : Type 0} where
  -- one number is in ascending order
  pub cell_ordered : (block : ℕ) (slot : V) → IsStrictlySortedBy nat_cmp (keys_of ((block, slot) ∷ []))
  unfolding IsStrictlySortedBy
  cell_ordered block slot = (tt, tt)

  -- a cell is not empty
  pub cell_filled : (block : ℕ) (slot : V) → ◌≡◌ {A = Map ℕ V} ((block, slot) ∷ []) [] → ⊥
  cell_filled block slot e = cc

  -- a cell has its own number
  pub cell_part : (block : ℕ) (slot : V) (i : ℕ) → block ≡ i → IsPart (λ v. v) i ((block, slot) ∷ [])
  unfolding IsStrictlySortedBy
  cell_part block slot i e = ((tt, tt), (e, tt))
