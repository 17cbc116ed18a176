-- A leaf: the entries at its 512 places.
use Rattle.std.proofs.Common.{◌≡◌, ℕ, zero, suc, ◌+◌, ◌*◌, ◌/◌, ◌%◌, ◌≤◌, ◌<◌, Bool, true, false, Option, sym, subst, arith}
use Rattle.std.specs.Prelude.{Some, None, slice_index_or}
use Rattle.std.specs.List.{AllByRecursion}
use Rattle.std.specs.List.Sorted.{IsStrictlySortedBy}
use Rattle.std.specs.Map.{keys_of}
use Rattle.std.specs.Ordering.{nat_cmp}
use Rattle.std.specs.Cmp.{nat_cmp_is}
use Rattle.std.specs.declared.cmp.Ordering.TheVariants.{Less}
use Rattle.nm_types.specs.Map.{Map}
use Rattle.nm_tables.specs.definitions.Tree.{and_then, entries_from, IsPart}
use Rattle.nm_tables.specs.views.Marks.{is_marked}
use Rattle.nm_tables.specs.declared.places.Places.{Places}
use Rattle.nm_types.specs.declared.entry.Entry.{Entry}
use Rattle.nm_types.specs.declared.entry.Entry.TheVariants.{Zero, Frame, Held}

-- the entry at a place that names a frame or not, with a mark or without
abbrev pub leaf_entry : Bool → Bool → ℕ → Option Entry
leaf_entry false false frame = None
leaf_entry false true frame = Some Zero
leaf_entry true false frame = Some (Frame frame)
leaf_entry true true frame = Some (Held frame)

-- the entry at a place
abbrev pub stands_at : Places → ℕ → Option Entry
stands_at places i = leaf_entry (is_marked places.named.words i) (is_marked places.marked.words i) (slice_index_or places.frames i 0)

-- the entries of a leaf
unfoldable pub leaf_entries : Places → Map ℕ Entry
leaf_entries places = entries_from (λ v. stands_at places (v % 512)) (places.block * 512) 512

module _ {V : Type 0} where
  module _ (f : ℕ → Option V) where
    -- what holds of all numbers holds of the keys
    pub keys_from : (P : ℕ → Type 0) (s n : ℕ) → ((k : ℕ) → s ≤ k → k < s + n → P k) → AllByRecursion P (keys_of (entries_from f s n))
    keys_from P s zero h = tt
    keys_from P s (suc n) h =
        let later = keys_from P (suc s) n (λ k l u. h k (omega (arith, l)) (omega (arith, u))) in
        elim (f s) as (λ o. AllByRecursion P (keys_of (and_then o s (entries_from f (suc s) n)))) [
          | None ↦ later
          | Some x ↦ (h s (omega arith) (omega arith), later)
        ]

    -- listed entries are in ascending order
    pub sorted-listed : (s n : ℕ) → IsStrictlySortedBy nat_cmp (keys_of (entries_from f s n))
    unfolding IsStrictlySortedBy
    sorted-listed s zero = tt
    sorted-listed s (suc n) =
        elim (f s) as (λ o. IsStrictlySortedBy nat_cmp (keys_of (and_then o s (entries_from f (suc s) n)))) [
          | None ↦ sorted-listed (suc s) n
          | Some x ↦ (keys_from (λ k. nat_cmp s k ≡ Less) (suc s) n (λ k l u. sym (nat_cmp_is s k Less l)), sorted-listed (suc s) n)
        ]

    -- the entries listed of a block have its number
    pub block_part : (block : ℕ) → IsPart (λ v. v / 512) block (entries_from f (block * 512) 512)
    block_part block =
        (sorted-listed (block * 512) 512, keys_from (λ k. k / 512 ≡ block) (block * 512) 512 (λ k l u. omega (arith, l, u)))

-- a greater page number is in the same block or a later one
pub blocks_upwards : (a b : ℕ) → a ≤ b → a / 512 ≤ b / 512
blocks_upwards a b l = omega (arith, l)

-- the entries of a leaf are in ascending order
pub leaf_ordered : (places : Places) → IsStrictlySortedBy nat_cmp (keys_of (leaf_entries places))
unfolding leaf_entries
leaf_ordered places = sorted-listed (λ v. stands_at places (v % 512)) (places.block * 512) 512

-- the entries of a leaf have the number of its block
pub leaf_part : (places : Places) (i : ℕ) → places.block ≡ i → IsPart (λ v. v / 512) i (leaf_entries places)
unfolding leaf_entries
leaf_part places i e =
    subst (λ i. IsPart (λ v. v / 512) i (leaf_entries places)) e (block_part (λ v. stands_at places (v % 512)) places.block)
