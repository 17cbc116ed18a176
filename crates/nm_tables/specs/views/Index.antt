-- An index: blocks, and three levels of inner nodes over them.
use Rattle.std.specs.Prelude.{◌≡◌, ℕ, ◌/◌, [], ◌∷◌, Option, Some, None}
use Rattle.std.specs.List.{AllByRecursion}
use Rattle.std.specs.Map.{keys_of}
use Rattle.nm_types.specs.Map.{Map}
use Rattle.nm_tables.specs.definitions.Tree.{flatten}
use Rattle.nm_tables.specs.definitions.Nodes.{slots_shown, IsFilledNode}
use Rattle.nm_tables.specs.declared.slot.Slot.{Slot}
use Rattle.nm_tables.specs.declared.cell.Cell.{Cell}
use Rattle.nm_tables.specs.views.Branches.{parts_of}
use Rattle.nm_tables.specs.declared.branch.Branch.{Branch}

-- the slot of one block
abbrev pub slots_in_cell : Cell → Map ℕ Slot
slots_in_cell cell = (cell.block, cell.slot) ∷ []

-- a cell may have any slot
abbrev pub IsCell : Cell → Type 0
IsCell cell = Unit {0}

-- the cell is that of this block
abbrev pub IsCellOf : Cell → ℕ → Type 0
IsCellOf cell i = cell.block ≡ i

module _ {A P : Type 0} where
  -- the slots of a node, from those of its parts
  abbrev pub slots_in : (P → Map ℕ Slot) → Branch P A → Map ℕ Slot
  slots_in slots node = flatten (slots_shown slots (parts_of node))

  -- the node has parts, in order, each valid and with its own number
  abbrev pub IsInner : (P → Type 0) → (P → ℕ → Type 0) → Branch P A → Type 0
  IsInner whole is_in node = IsFilledNode whole is_in (parts_of node)

  -- the node has this number
  abbrev pub IsInnerOf : Branch P A → ℕ → Type 0
  IsInnerOf node i = AllByRecursion (λ k. k / 512 ≡ i) (keys_of (parts_of node))

module _ {A : Type 0} where
  -- the slots of a tree
  abbrev pub tree_slots : Branch (Branch (Branch Cell A) A) A → Map ℕ Slot
  tree_slots root = slots_in (slots_in (slots_in slots_in_cell)) root

  -- a tree in which each part is where its number says
  abbrev pub IsTree : Branch (Branch (Branch Cell A) A) A → Type 0
  IsTree root = IsInner (IsInner (IsInner IsCell IsCellOf) IsInnerOf) IsInnerOf root

  -- the slots of an index; none if it has no block
  abbrev pub root_slots : Option (Branch (Branch (Branch Cell A) A) A) → Map ℕ Slot
  root_slots None = []
  root_slots (Some root) = tree_slots root

  -- a valid tree, if there is one
  abbrev pub IsRoot : Option (Branch (Branch (Branch Cell A) A) A) → Type 0
  IsRoot None = Unit {0}
  IsRoot (Some root) = IsTree root
