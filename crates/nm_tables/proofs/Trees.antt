-- The slots of an index are in ascending order.
use Rattle.std.specs.Prelude.{Option, Some, None}
use Rattle.std.proofs.Common.{◌≡◌, ℕ, ◌≤◌, ◌/◌, subst}
use Rattle.std.specs.List.Sorted.{IsStrictlySortedBy}
use Rattle.std.specs.Map.{keys_of}
use Rattle.std.specs.Ordering.{nat_cmp}
use Rattle.nm_types.specs.Map.{Map}
use Rattle.nm_tables.specs.definitions.Tree.{IsPart}
use Rattle.nm_tables.specs.definitions.Nodes.{node_ordered, node_part, upwards_again}
use Rattle.nm_tables.specs.laws.Cells.{cell_part}
use Rattle.nm_tables.specs.views.Index.{slots_in_cell, IsCell, IsCellOf, slots_in, IsInner, IsInnerOf, tree_slots, IsTree, root_slots, IsRoot}
use Rattle.nm_tables.specs.declared.slot.Slot.{Slot}
use Rattle.nm_tables.specs.declared.cell.Cell.{Cell}
use Rattle.nm_tables.specs.declared.branch.Branch.{Branch}
use Rattle.nm_tables.specs.views.Branches.{parts_of}

-- the numbers of blocks, and of the nodes one and two levels over them
block_of : ℕ → ℕ
block_of v = v

above : (ℕ → ℕ) → ℕ → ℕ
above number v = number v / 512

block_of_upwards : (v w : ℕ) → v ≤ w → block_of v ≤ block_of w
unfolding block_of
block_of_upwards v w l = l

above_upwards : (number : ℕ → ℕ) → ((v w : ℕ) → v ≤ w → number v ≤ number w) → (v w : ℕ) → v ≤ w → above number v ≤ above number w
unfolding above
above_upwards number up = upwards_again number up

cell_parted : (x : Cell) (i : ℕ) → IsCell x → IsCellOf x i → IsPart block_of i (slots_in_cell x)
unfolding block_of
cell_parted x i w n = cell_part x.block x.slot i n

inner_parted : {A P : Type 0} (slots : P → Map ℕ Slot) (number : ℕ → ℕ) (whole : P → Type 0) (is_in : P → ℕ → Type 0)
    (part : (x : P) (i : ℕ) → whole x → is_in x i → IsPart number i (slots x)) → ((v w : ℕ) → v ≤ w → number v ≤ number w)
    → (x : Branch P A) (i : ℕ) → IsInner whole is_in x → IsInnerOf x i → IsPart (above number) i (slots_in slots x)
unfolding above
inner_parted slots number whole is_in part up x i w n = node_part slots number whole is_in part up (parts_of x) i w.0 n

tree_ordered : {A : Type 0} (root : Branch (Branch (Branch Cell A) A) A) → IsTree root → IsStrictlySortedBy nat_cmp (keys_of (tree_slots root))
tree_ordered {A} root w =
    node_ordered (slots_in {A = A} (slots_in {A = A} slots_in_cell)) (above (above block_of)) (IsInner (IsInner IsCell IsCellOf) IsInnerOf) IsInnerOf
    (inner_parted (slots_in {A = A} slots_in_cell) (above block_of) (IsInner IsCell IsCellOf) IsInnerOf
    (inner_parted slots_in_cell block_of IsCell IsCellOf cell_parted block_of_upwards)
    (above_upwards block_of block_of_upwards))
    (above_upwards (above block_of) (above_upwards block_of block_of_upwards)) (parts_of root) w.0

root_ordered : {A : Type 0} (root : Option (Branch (Branch (Branch Cell A) A) A)) → IsRoot root → IsStrictlySortedBy nat_cmp (keys_of (root_slots root))
unfolding IsStrictlySortedBy
root_ordered None w = tt
root_ordered (Some root) w = tree_ordered root w

pub ordered_by : {A : Type 0} (root : Option (Branch (Branch (Branch Cell A) A) A)) (m : Map ℕ Slot) → root_slots root ≡ m → IsRoot root → IsStrictlySortedBy nat_cmp (keys_of m)
ordered_by root m e w = subst (λ m. IsStrictlySortedBy nat_cmp (keys_of m)) e (root_ordered root w)
