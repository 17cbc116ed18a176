-- The blocks of a page table: each has a slot, which says where its entries are stored.
use Rattle.std.specs.Prelude.{◌≡◌, ℕ, ◌+◌, ◌/◌, ◌<◌, ◌≤◌, ◌^◌, List, [], ◌∷◌, length, Option, Some, None, slice_get}
use Rattle.std.specs.Vec.{vec_capacity}
use Rattle.std.specs.Ordering.{nat_cmp}
use Rattle.nm_types.specs.Map.{Map, get}
use Rattle.nm_tables.specs.definitions.Tree.{flatten}
use Rattle.nm_tables.specs.definitions.Nodes.{slots_shown, IsNode}
use Rattle.nm_tables.specs.views.Leaves.{leaf_entries}
use Rattle.nm_types.specs.declared.entry.Entry.{Entry}
use Rattle.nm_tables.specs.declared.places.Places.{Places}
use Rattle.nm_tables.specs.declared.slot.Slot.{Slot}
use Rattle.nm_tables.specs.declared.slot.Slot.TheVariants.{Lone, Leaf}
use Rattle.nm_tables.specs.declared.blocks.Blocks.{Blocks}

-- the entries of a leaf, if there is one
abbrev pub entries_there : Option Places → Map ℕ Entry
entries_there None = []
entries_there (Some leaf) = leaf_entries leaf

-- the entries of a block with this slot
abbrev pub slot_entries : List Places → Slot → Map ℕ Entry
slot_entries leaves (Lone v entry) = (v, entry) ∷ []
slot_entries leaves (Leaf i) = entries_there (slice_get leaves i)

-- there is a leaf, and it is of this block
abbrev pub IsLeafOf : Option Places → ℕ → Type 0
IsLeafOf None block = ⊥
IsLeafOf (Some leaf) block = leaf.block ≡ block

-- the slot may be that of this block: its entry or its leaf belongs there
abbrev pub IsOf : List Places → Slot → ℕ → Type 0
IsOf leaves (Lone v entry) block = v / 512 ≡ block
IsOf leaves (Leaf i) block = IsLeafOf (slice_get leaves i) block

-- the same, of a block that some page number has
abbrev pub IsSlotOf : List Places → Slot → ℕ → Type 0
IsSlotOf leaves slot block = (block < 2 ^ 55) × IsOf leaves slot block

-- the index accepts any slot
abbrev pub IsSlot : Slot → Type 0
IsSlot slot = Unit {0}

-- 1 for a slot without a leaf, 0 otherwise
abbrev pub lacks : Slot → ℕ
lacks (Lone v entry) = 1
lacks (Leaf i) = 0

-- how many blocks have no leaf
abbrev pub without_leaf : Map ℕ Slot → ℕ
without_leaf [] = 0
without_leaf (e ∷ index) = lacks e.1 + without_leaf index

-- the entries of all blocks
abbrev pub entries_by : List Places → Map ℕ Slot → Map ℕ Entry
entries_by leaves index = flatten (slots_shown (slot_entries leaves) index)

-- the blocks are in ascending order, each with a slot of its own
abbrev pub AreBlocks : List Places → Map ℕ Slot → Type 0
AreBlocks leaves index = IsNode IsSlot (IsSlotOf leaves) index

-- each leaf is the one that its block's slot names
abbrev pub EachLeafIsNamed : List Places → Map ℕ Slot → Type 0
EachLeafIsNamed leaves index = (i : ℕ) (leaf : Places) → slice_get leaves i ≡ Some leaf → get nat_cmp index leaf.block ≡ Some (Leaf i)

-- each block has an entry
abbrev pub EachHasEntries : List Places → Map ℕ Slot → Type 0
EachHasEntries leaves index = (block : ℕ) (slot : Slot) → get nat_cmp index block ≡ Some slot → slot_entries leaves slot ≡ [] → ⊥

module _ {A : Type 0} where
  -- the entries of a page table
  abbrev pub block_entries : Blocks A → Map ℕ Entry
  block_entries blocks = entries_by blocks.leaves.items blocks.index

  -- the blocks all have entries, those without a leaf are counted, and there is room for their leaves
  abbrev pub IsBlocks : Blocks A → Type 0
  IsBlocks blocks =
      AreBlocks blocks.leaves.items blocks.index
      × (blocks.without ≡ without_leaf blocks.index)
      × (length blocks.leaves.items + blocks.without ≤ vec_capacity blocks.leaves)
      × EachLeafIsNamed blocks.leaves.items blocks.index
      × EachHasEntries blocks.leaves.items blocks.index
