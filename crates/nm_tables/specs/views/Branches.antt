-- The parts of an inner node of an index.
use Rattle.std.specs.Prelude.{ℕ, [], ◌∷◌}
use Rattle.nm_types.specs.Map.{Map}
use Rattle.nm_tables.specs.declared.branch.Branch.{Branch}
use Rattle.nm_tables.specs.declared.branch.Branch.TheVariants.{One, Many}

module _ {P A : Type 0} where
  -- by their numbers
  abbrev pub parts_of : Branch P A → Map ℕ P
  parts_of (One number part) = (number, part) ∷ []
  parts_of (Many node) = node.parts.items

  -- the branch has a single part
  abbrev pub IsOne : Branch P A → Type 0
  IsOne (One number part) = Unit {0}
  IsOne (Many node) = ⊥
