-- The blocks of a page table: what is found of them, and after one of them is changed.
use Rattle.std.proofs.Common.{◌≡◌, ℕ, zero, suc, ◌+◌, ◌/◌, ◌≤◌, ◌<◌, List, Option, [], ◌∷◌, ◌++◌, length, get_or, true, false, cond, refl, sym, ap, subst, ◌∙◌, arith}
use Rattle.std.specs.Prelude.{Some, None, IfSome, slice_get, set as put}
use Rattle.std.specs.List.{AllByRecursion}
use Rattle.std.specs.List.Sorted.{IsStrictlySortedBy}
use Rattle.std.specs.Map.{keys_of}
use Rattle.std.specs.Ordering.{nat_cmp, is_eq, match_ordering}
use Rattle.std.specs.declared.cmp.Ordering.TheVariants.{Less, Equal, Greater}
use Rattle.std.proofs.lemmas.Map.Lookups.{exact_unsigned}
use Rattle.nm_types.specs.Map.{Map, get, set, replace, without}
use Rattle.nm_types.proofs.Cases.{none_some, some_none, some_is}
use Rattle.nm_types.proofs.Maps.{get-values}
use Rattle.std.specs.Option.{option_map}
use Rattle.nm_tables.specs.definitions.Tree.{flatten, IsPart}
use Rattle.nm_tables.specs.definitions.Nodes.{slots_shown, are_parts, node_ordered}
use Rattle.nm_tables.specs.views.Leaves.{leaf_entries, leaf_part, blocks_upwards}
use Rattle.nm_tables.specs.views.Blocks.{entries_there, slot_entries, IsLeafOf, IsOf, IsSlotOf, IsSlot, lacks, without_leaf, entries_by, AreBlocks, block_entries, IsBlocks}
use Rattle.nm_types.specs.declared.entry.Entry.{Entry}
use Rattle.nm_tables.specs.declared.places.Places.{Places}
use Rattle.nm_tables.specs.declared.slot.Slot.{Slot}
use Rattle.nm_tables.specs.declared.slot.Slot.TheVariants.{Lone, Leaf}
use Rattle.nm_tables.proofs.Joined.{less_equal, greater_equal, same_number, is_same, one_or_other, none_elsewhere}
use Rattle.nm_tables.proofs.Changed.{joined-set, joined-without}
use Rattle.nm_tables.specs.declared.blocks.Blocks.{Blocks}
use Rattle.std.proofs.Math.Decide.{dec_lt}
use Rattle.nm_tables.proofs.Nodes as node

-- the number of the block of a page number
abbrev pub block_number : ℕ → ℕ
block_number v = v / 512

part_there : (o : Option Places) (block : ℕ) → IsLeafOf o block → IsPart block_number block (entries_there o)
part_there None block is = absurd is
part_there (Some leaf) block is = leaf_part leaf block is

-- the entries of a block have its number
pub slot_part : (leaves : List Places) (slot : Slot) (block : ℕ) → IsSlot slot → IsSlotOf leaves slot block → IsPart block_number block (slot_entries leaves slot)
unfolding IsStrictlySortedBy
slot_part leaves (Lone v entry) block w is = ((tt, tt), (is.1, tt))
slot_part leaves (Leaf i) block w is = part_there (slice_get leaves i) block is.1

-- no leaf is past the list of leaves
pub within : (leaves : List Places) (i block : ℕ) → IsLeafOf (slice_get leaves i) block → i < length leaves
within [] i block is = absurd is
within (leaf ∷ leaves) zero block is = omega arith
within (leaf ∷ leaves) (suc i) block is = let rest = within leaves i block is in omega (arith, rest)

-- the leaf is at its place
pub leaf_found : (leaves : List Places) (i block : ℕ) (d : Places) → IsLeafOf (slice_get leaves i) block → slice_get leaves i ≡ Some (get_or leaves i d)
leaf_found [] i block d is = absurd is
leaf_found (leaf ∷ leaves) zero block d is = refl
leaf_found (leaf ∷ leaves) (suc i) block d is = leaf_found leaves i block d is

-- a place of a list is written
pub get-written : (leaves : List Places) (i : ℕ) (q : Places) → i < length leaves → slice_get (put leaves i q) i ≡ Some q
get-written [] i q l = absurd (omega (arith, l))
get-written (leaf ∷ leaves) zero q l = refl
get-written (leaf ∷ leaves) (suc i) q l = get-written leaves i q (omega (arith, l))

pub get-written_other : (leaves : List Places) (i j : ℕ) (q : Places) → (j ≡ i → ⊥) → slice_get (put leaves i q) j ≡ slice_get leaves j
get-written_other [] i j q apart = refl
get-written_other (leaf ∷ leaves) zero zero q apart = absurd (apart refl)
get-written_other (leaf ∷ leaves) zero (suc j) q apart = refl
get-written_other (leaf ∷ leaves) (suc i) zero q apart = refl
get-written_other (leaf ∷ leaves) (suc i) (suc j) q apart = get-written_other leaves i j q (λ e. apart (ap suc e))

-- a leaf is added after the others
pub get-behind : (leaves : List Places) (q : Places) → slice_get (leaves ++ q ∷ []) (length leaves) ≡ Some q
get-behind [] q = refl
get-behind (leaf ∷ leaves) q = get-behind leaves q

pub get-before : (leaves : List Places) (q : Places) (j : ℕ) → j < length leaves → slice_get (leaves ++ q ∷ []) j ≡ slice_get leaves j
get-before [] q j l = absurd (omega (arith, l))
get-before (leaf ∷ leaves) q zero l = refl
get-before (leaf ∷ leaves) q (suc j) l = get-before leaves q j (omega (arith, l))

-- what is shown of each part by two functions that differ at one key at most
module _ {P V : Type 0} (f g : P → Map ℕ V) (Is : P → ℕ → Type 0) where
  pub shown-same : ((x : P) (k : ℕ) → Is x k → g x ≡ f x) → (parts : Map ℕ P) → AllByRecursion (λ e. Is e.1 e.0) parts → slots_shown g parts ≡ slots_shown f parts
  shown-same same [] all = refl
  shown-same same (e ∷ parts) all =
      ap (λ m. (e.0, m) ∷ slots_shown g parts) (same e.1 e.0 all.0) ∙ ap (λ rest. (e.0, f e.1) ∷ rest) (shown-same same parts all.1)

  module _ (b : ℕ) (others : (x : P) (k : ℕ) → (k ≡ b → ⊥) → Is x k → g x ≡ f x) where
    same_behind : (parts : Map ℕ P) → AllByRecursion (λ k. nat_cmp b k ≡ Less) (keys_of parts) → AllByRecursion (λ e. Is e.1 e.0) parts → slots_shown g parts ≡ slots_shown f parts
    same_behind [] above all = refl
    same_behind (e ∷ parts) above all =
        ap (λ m. (e.0, m) ∷ slots_shown g parts) (others e.1 e.0 (λ z. less_equal (sym above.0 ∙ same_number b e.0 (sym z))) all.0)
        ∙ ap (λ rest. (e.0, f e.1) ∷ rest) (same_behind parts above.1 all.1)

    pub shown-changed : (parts : Map ℕ P) (x : P) → IsStrictlySortedBy nat_cmp (keys_of parts) → AllByRecursion (λ e. Is e.1 e.0) parts → get nat_cmp parts b ≡ Some x
        → slots_shown g parts ≡ replace nat_cmp (slots_shown f parts) b (g x)
    unfolding IsStrictlySortedBy
    shown-changed [] x s all h = absurd (none_some h)
    shown-changed (e ∷ parts) x s all h =
        elim (nat_cmp b e.0) as (λ r. nat_cmp b e.0 ≡ r → cond (is_eq r) (Some e.1) (get nat_cmp parts b) ≡ Some x
        → slots_shown g (e ∷ parts) ≡ cond (is_eq r) ((e.0, g x) ∷ slots_shown f parts) ((e.0, f e.1) ∷ replace nat_cmp (slots_shown f parts) b (g x))) [
          | Less ↦ λ r h.
              ap (λ m. (e.0, m) ∷ slots_shown g parts) (others e.1 e.0 (λ z. less_equal (sym r ∙ same_number b e.0 (sym z))) all.0)
              ∙ ap (λ rest. (e.0, f e.1) ∷ rest) (shown-changed parts x s.1 all.1 h)
          | Equal ↦ λ r h.
              ap (λ m. (e.0, m) ∷ slots_shown g parts) (ap g (some_is h))
              ∙ ap (λ rest. (e.0, g x) ∷ rest) (same_behind parts (subst (λ k. AllByRecursion (λ y. nat_cmp k y ≡ Less) (keys_of parts)) (sym (is_same b e.0 r)) s.0) all.1)
          | Greater ↦ λ r h.
              ap (λ m. (e.0, m) ∷ slots_shown g parts) (others e.1 e.0 (λ z. greater_equal (sym r ∙ same_number b e.0 (sym z))) all.0)
              ∙ ap (λ rest. (e.0, f e.1) ∷ rest) (shown-changed parts x s.1 all.1 h)
        ] refl h

-- how many blocks have no leaf after one of them has another slot, and with one more
pub lacking-replace : (index : Map ℕ Slot) (b : ℕ) (old new : Slot) → get nat_cmp index b ≡ Some old
    → without_leaf (replace nat_cmp index b new) + lacks old ≡ without_leaf index + lacks new
lacking-replace [] b old new h = absurd (none_some h)
lacking-replace (e ∷ index) b old new h =
    elim (is_eq (nat_cmp b e.0)) as (λ r. cond r (Some e.1) (get nat_cmp index b) ≡ Some old
    → without_leaf (cond r ((e.0, new) ∷ index) (e ∷ replace nat_cmp index b new)) + lacks old ≡ without_leaf (e ∷ index) + lacks new) [
      | true ↦ λ h. let same : lacks e.1 ≡ lacks old = ap lacks (some_is h) in omega (arith, same)
      | false ↦ λ h. let rest = lacking-replace index b old new h in omega (arith, rest)
    ] h

pub lacking-set : (index : Map ℕ Slot) (b : ℕ) (new : Slot) → get nat_cmp index b ≡ None → without_leaf (set nat_cmp index b new) ≡ lacks new + without_leaf index
lacking-set [] b new h = refl
lacking-set (e ∷ index) b new h =
    elim (nat_cmp b e.0) as (λ r. cond (is_eq r) (Some e.1) (get nat_cmp index b) ≡ None
    → without_leaf (match_ordering r ((b, new) ∷ e ∷ index) ((e.0, new) ∷ index) (e ∷ set nat_cmp index b new)) ≡ lacks new + without_leaf (e ∷ index)) [
      | Less ↦ λ h. refl
      | Equal ↦ λ h. absurd (some_none h)
      | Greater ↦ λ h. let rest = lacking-set index b new h in omega (arith, rest)
    ] h

-- how many blocks have no leaf without one of them
pub lacking-without : (index : Map ℕ Slot) (b : ℕ) (old : Slot) → get nat_cmp index b ≡ Some old → without_leaf (without nat_cmp index b) + lacks old ≡ without_leaf index
lacking-without [] b old h = absurd (none_some h)
lacking-without (e ∷ index) b old h =
    elim (is_eq (nat_cmp b e.0)) as (λ r. cond r (Some e.1) (get nat_cmp index b) ≡ Some old → without_leaf (cond r index (e ∷ without nat_cmp index b)) + lacks old ≡ without_leaf (e ∷ index)) [
      | true ↦ λ h. let same : lacks e.1 ≡ lacks old = ap lacks (some_is h) in omega (arith, same)
      | false ↦ λ h. let rest = lacking-without index b old h in omega (arith, rest)
    ] h

module _ (leaves : List Places) (index : Map ℕ Slot) (is : AreBlocks leaves index) where
  pub blocks-ordered : IsStrictlySortedBy nat_cmp (keys_of (entries_by leaves index))
  blocks-ordered = node_ordered (slot_entries leaves) block_number IsSlot (IsSlotOf leaves) (slot_part leaves) blocks_upwards index is

  pub blocks-found : (b : ℕ) (slot : Slot) → get nat_cmp index b ≡ Some slot → IsSlotOf leaves slot b
  blocks-found b slot h = (node.found (slot_entries leaves) block_number IsSlot (IsSlotOf leaves) (slot_part leaves) blocks_upwards index is b slot h).1

  -- the same of a block that a walk comes to
  pub slot-found : (from : ℕ) (o : Option (ℕ × Slot)) → IfSome o (λ e. (from ≤ e.0) × (get nat_cmp index e.0 ≡ Some e.1)) → IfSome o (λ e. IsSlotOf leaves e.1 e.0)
  slot-found from None h = tt
  slot-found from (Some e) h = blocks-found e.0 e.1 h.1

  pub blocks-get : (v : ℕ) (slot : Slot) → get nat_cmp index (v / 512) ≡ Some slot → get nat_cmp (entries_by leaves index) v ≡ get nat_cmp (slot_entries leaves slot) v
  blocks-get v slot h = node.node-get (slot_entries leaves) block_number IsSlot (IsSlotOf leaves) (slot_part leaves) blocks_upwards index is v slot h

  pub blocks-none : (v : ℕ) → get nat_cmp index (v / 512) ≡ None → get nat_cmp (entries_by leaves index) v ≡ None
  blocks-none v h = node.node-get_none (slot_entries leaves) block_number IsSlot (IsSlotOf leaves) (slot_part leaves) blocks_upwards index is v h

  pub blocks-set : (v : ℕ) (old new : Slot) (e : Entry) → get nat_cmp index (v / 512) ≡ Some old → slot_entries leaves new ≡ set nat_cmp (slot_entries leaves old) v e
      → entries_by leaves (replace nat_cmp index (v / 512) new) ≡ set nat_cmp (entries_by leaves index) v e
  blocks-set v old new e h to = node.node-set (slot_entries leaves) block_number IsSlot (IsSlotOf leaves) (slot_part leaves) blocks_upwards index is v old new h e to

  pub blocks-without : (v : ℕ) (old new : Slot) → get nat_cmp index (v / 512) ≡ Some old → slot_entries leaves new ≡ without nat_cmp (slot_entries leaves old) v
      → entries_by leaves (replace nat_cmp index (v / 512) new) ≡ without nat_cmp (entries_by leaves index) v
  blocks-without v old new h to = node.node-without (slot_entries leaves) block_number IsSlot (IsSlotOf leaves) (slot_part leaves) blocks_upwards index is v old new h to

  pub blocks-new : (v : ℕ) (e : Entry) → get nat_cmp index (v / 512) ≡ None → entries_by leaves (set nat_cmp index (v / 512) (Lone v e)) ≡ set nat_cmp (entries_by leaves index) v e
  blocks-new v e h = node.node-new (slot_entries leaves) block_number IsSlot (IsSlotOf leaves) (slot_part leaves) blocks_upwards index is v (Lone v e) e h refl

  -- the block of v, which has no other entry, is removed
  pub blocks-gone : (v : ℕ) (slot : Slot) → get nat_cmp index (v / 512) ≡ Some slot → without nat_cmp (slot_entries leaves slot) v ≡ []
      → entries_by leaves (without nat_cmp index (v / 512)) ≡ without nat_cmp (entries_by leaves index) v
  blocks-gone v slot h only = node.node-gone (slot_entries leaves) block_number IsSlot (IsSlotOf leaves) (slot_part leaves) blocks_upwards index is v slot h only

  pub blocks-less : (b : ℕ) → AreBlocks leaves (without nat_cmp index b)
  blocks-less b = node.node-less (slot_entries leaves) block_number IsSlot (IsSlotOf leaves) (slot_part leaves) blocks_upwards index is b

  pub blocks-kept : (b : ℕ) (new : Slot) → IsSlotOf leaves new b → AreBlocks leaves (replace nat_cmp index b new)
  blocks-kept b new of = node.node-kept (slot_entries leaves) block_number IsSlot (IsSlotOf leaves) (slot_part leaves) blocks_upwards index is b new tt of

  pub blocks-more : (b : ℕ) (new : Slot) → IsSlotOf leaves new b → AreBlocks leaves (set nat_cmp index b new)
  blocks-more b new of = node.node-more (slot_entries leaves) block_number IsSlot (IsSlotOf leaves) (slot_part leaves) blocks_upwards index is b new tt of

  pub blocks-without_nothing : (v : ℕ) → get nat_cmp index (v / 512) ≡ None → without nat_cmp (entries_by leaves index) v ≡ entries_by leaves index
  blocks-without_nothing v h = node.node-without_nothing (slot_entries leaves) block_number IsSlot (IsSlotOf leaves) (slot_part leaves) blocks_upwards index is v h

  at_shown : (b : ℕ) (slot : Slot) → get nat_cmp index b ≡ Some slot → get nat_cmp (slots_shown (slot_entries leaves) index) b ≡ Some (slot_entries leaves slot)
  at_shown b slot h = get-values exact_unsigned (λ i x. slot_entries leaves x) index b ∙ ap (option_map (slot_entries leaves)) h

  -- the block of v has a leaf, which is written to
  module _ (v i : ℕ) (q : Places) (h : get nat_cmp index (v / 512) ≡ Some (Leaf i)) (own : q.block ≡ v / 512) where
    here : IsLeafOf (slice_get leaves i) (v / 512)
    here = (blocks-found (v / 512) (Leaf i) h).1

    one_block : (o : Option Places) (a b : ℕ) → IsLeafOf o a → IsLeafOf o b → a ≡ b
    one_block None a b x y = absurd x
    one_block (Some leaf) a b x y = sym x ∙ y

    -- the leaf of another block is another leaf
    other_leaf : (j k : ℕ) → (k ≡ v / 512 → ⊥) → IsLeafOf (slice_get leaves j) k → j ≡ i → ⊥
    other_leaf j k apart of e = apart (one_block (slice_get leaves i) k (v / 512) (subst (λ j. IsLeafOf (slice_get leaves j) k) e of) here)

    pub other_slot : (slot : Slot) (k : ℕ) → (k ≡ v / 512 → ⊥) → IsSlot slot × IsSlotOf leaves slot k → slot_entries (put leaves i q) slot ≡ slot_entries leaves slot
    other_slot (Lone w e) k apart of = refl
    other_slot (Leaf j) k apart of = ap entries_there (get-written_other leaves i j q (other_leaf j k apart of.1.1))

    still_leaf : (j k : ℕ) → Dec (j ≡ i) → IsLeafOf (slice_get leaves j) k → IsLeafOf (slice_get (put leaves i q) j) k
    still_leaf j k (yes e) of =
        let same : v / 512 ≡ k = one_block (slice_get leaves i) (v / 512) k here (subst (λ j. IsLeafOf (slice_get leaves j) k) e of) in
        subst (λ j. IsLeafOf (slice_get (put leaves i q) j) k) (sym e)
        (subst (λ o. IsLeafOf o k) (sym (get-written leaves i q (within leaves i (v / 512) here))) (own ∙ same))
    still_leaf j k (no n) of = subst (λ o. IsLeafOf o k) (sym (get-written_other leaves i j q n)) of

    still : (slot : Slot) (k : ℕ) → IsOf leaves slot k → IsOf (put leaves i q) slot k
    still (Lone w e) k of = of
    still (Leaf j) k of = still_leaf j k (one_or_other j i) of

    all_still : (m : Map ℕ Slot) → AllByRecursion (λ e. IsSlot e.1 × IsSlotOf leaves e.1 e.0) m → AllByRecursion (λ e. IsSlot e.1 × IsSlotOf (put leaves i q) e.1 e.0) m
    all_still [] all = tt
    all_still (e ∷ m) all = ((tt, (all.0.1.0, still e.1 e.0 all.0.1.1)), all_still m all.1)

    pub written-kept : AreBlocks (put leaves i q) index
    written-kept = (is.0, all_still index is.1)

    written : (m : Map ℕ Entry) → leaf_entries q ≡ m → entries_by (put leaves i q) index ≡ flatten (replace nat_cmp (slots_shown (slot_entries leaves) index) (v / 512) m)
    written m to =
        ap flatten (shown-changed (slot_entries leaves) (slot_entries (put leaves i q)) (λ slot k. IsSlot slot × IsSlotOf leaves slot k) (v / 512) other_slot index (Leaf i) is.0 is.1 h
        ∙ ap (replace nat_cmp (slots_shown (slot_entries leaves) index) (v / 512)) (ap entries_there (get-written leaves i q (within leaves i (v / 512) here)) ∙ to))

    pub written-set : (p : Places) (e : Entry) → slice_get leaves i ≡ Some p → leaf_entries q ≡ set nat_cmp (leaf_entries p) v e → entries_by (put leaves i q) index ≡ set nat_cmp (entries_by leaves index) v e
    written-set p e at to =
        written (set nat_cmp (leaf_entries p) v e) to
        ∙ joined-set block_number blocks_upwards (slots_shown (slot_entries leaves) index) (are_parts (slot_entries leaves) block_number IsSlot (IsSlotOf leaves) (slot_part leaves) index is) v e (leaf_entries p)
        (at_shown (v / 512) (Leaf i) h ∙ ap (λ o. Some (entries_there o)) at)

    pub written-without : (p : Places) → slice_get leaves i ≡ Some p → leaf_entries q ≡ without nat_cmp (leaf_entries p) v → entries_by (put leaves i q) index ≡ without nat_cmp (entries_by leaves index) v
    written-without p at to =
        written (without nat_cmp (leaf_entries p) v) to
        ∙ joined-without block_number blocks_upwards (slots_shown (slot_entries leaves) index) (are_parts (slot_entries leaves) block_number IsSlot (IsSlotOf leaves) (slot_part leaves) index is) v (leaf_entries p)
        (at_shown (v / 512) (Leaf i) h ∙ ap (λ o. Some (entries_there o)) at)

  -- a leaf is added after the others
  module _ (q : Places) where
    behind_there : (j k : ℕ) → IsLeafOf (slice_get leaves j) k → slice_get (leaves ++ q ∷ []) j ≡ slice_get leaves j
    behind_there j k of = get-before leaves q j (within leaves j k of)

    pub behind_slot : (slot : Slot) (k : ℕ) → IsSlot slot × IsSlotOf leaves slot k → slot_entries (leaves ++ q ∷ []) slot ≡ slot_entries leaves slot
    behind_slot (Lone w e) k of = refl
    behind_slot (Leaf j) k of = ap entries_there (behind_there j k of.1.1)

    behind_is : (slot : Slot) (k : ℕ) → IsOf leaves slot k → IsOf (leaves ++ q ∷ []) slot k
    behind_is (Lone w e) k of = of
    behind_is (Leaf j) k of = subst (λ o. IsLeafOf o k) (sym (behind_there j k of)) of

    all_behind : (m : Map ℕ Slot) → AllByRecursion (λ e. IsSlot e.1 × IsSlotOf leaves e.1 e.0) m → AllByRecursion (λ e. IsSlot e.1 × IsSlotOf (leaves ++ q ∷ []) e.1 e.0) m
    all_behind [] all = tt
    all_behind (e ∷ m) all = ((tt, (all.0.1.0, behind_is e.1 e.0 all.0.1.1)), all_behind m all.1)

    pub behind-kept : AreBlocks (leaves ++ q ∷ []) index
    behind-kept = (is.0, all_behind index is.1)

    pub behind-same : entries_by (leaves ++ q ∷ []) index ≡ entries_by leaves index
    behind-same = ap flatten (shown-same (slot_entries leaves) (slot_entries (leaves ++ q ∷ [])) (λ slot k. IsSlot slot × IsSlotOf leaves slot k) behind_slot index is.1)

-- a block with one entry gets a leaf with a second one
module _ (leaves : List Places) (index : Map ℕ Slot) (is : AreBlocks leaves index) (v own : ℕ) (first entry : Entry) (q : Places) (h : get nat_cmp index (v / 512) ≡ Some (Lone own first))
    (block : q.block ≡ v / 512) where
  grown_kept : AreBlocks (leaves ++ q ∷ []) index
  grown_kept = behind-kept leaves index is q

  new_leaf : IsSlotOf (leaves ++ q ∷ []) (Leaf (length leaves)) (v / 512)
  new_leaf = ((blocks-found leaves index is (v / 512) (Lone own first) h).0, subst (λ o. IsLeafOf o (v / 512)) (sym (get-behind leaves q)) block)

  pub second-kept : AreBlocks (leaves ++ q ∷ []) (replace nat_cmp index (v / 512) (Leaf (length leaves)))
  second-kept = blocks-kept (leaves ++ q ∷ []) index grown_kept (v / 512) (Leaf (length leaves)) new_leaf

  pub second-set : leaf_entries q ≡ set nat_cmp ((own, first) ∷ []) v entry
      → entries_by (leaves ++ q ∷ []) (replace nat_cmp index (v / 512) (Leaf (length leaves))) ≡ set nat_cmp (entries_by leaves index) v entry
  second-set to =
      blocks-set (leaves ++ q ∷ []) index grown_kept v (Lone own first) (Leaf (length leaves)) entry h (ap entries_there (get-behind leaves q) ∙ to)
      ∙ ap (λ m. set nat_cmp m v entry) (behind-same leaves index is q)

-- the leaf that is read at its place
pub read_leaf : (leaves : List Places) (i block : ℕ) (p : Places) → IsLeafOf (slice_get leaves i) block → p ≡ get_or leaves i p → slice_get leaves i ≡ Some p
read_leaf leaves i block p is e = leaf_found leaves i block p is ∙ ap Some (sym e)

pub read_block : (leaves : List Places) (i block : ℕ) (p : Places) → IsLeafOf (slice_get leaves i) block → p ≡ get_or leaves i p → p.block ≡ block
read_block leaves i block p is e = subst (λ o. IsLeafOf o block) (read_leaf leaves i block p is e) is

-- where a block has one entry, at least one has no leaf
pub one_lacks : (index : Map ℕ Slot) (b own : ℕ) (first : Entry) → get nat_cmp index b ≡ Some (Lone own first) → 0 < without_leaf index
one_lacks index b own first h = let less = lacking-replace index b (Lone own first) (Leaf 0) h in omega (arith, less)

-- the one entry of a block is taken away
pub lone_without : (v own : ℕ) (e : Entry) → v ≡ own → without nat_cmp ((own, e) ∷ []) v ≡ []
lone_without v own e same = ap (λ r. cond (is_eq r) [] ((own, e) ∷ [])) (same_number v own same)

-- what is not there
pub lone_other : (v own : ℕ) (e : Entry) → (v ≡ own → ⊥) → without nat_cmp ((own, e) ∷ []) v ≡ (own, e) ∷ []
lone_other v own e apart =
    let one : Map ℕ Entry = (own, e) ∷ [] in
    elim (nat_cmp v own) as (λ r. nat_cmp v own ≡ r → cond (is_eq r) [] one ≡ one) [
      | Less ↦ λ r. refl
      | Equal ↦ λ r. absurd (apart (is_same v own r))
      | Greater ↦ λ r. refl
    ] refl

-- the one entry of a block is replaced
pub lone_set : (v own : ℕ) (first e : Entry) → v ≡ own → (v, e) ∷ [] ≡ set nat_cmp ((own, first) ∷ []) v e
lone_set v own first e same =
    let one : Map ℕ Entry = (own, first) ∷ [] in
    ap (λ k. (k, e) ∷ []) same ∙ ap (λ r. match_ordering r ((v, e) ∷ one) ((own, e) ∷ []) ((own, first) ∷ (v, e) ∷ [])) (sym (same_number v own same))

apart_below : (a b : ℕ) → a < b + 1 → (a ≡ b → ⊥) → a < b
apart_below a b l n = grind arith

module _ (leaves : List Places) (index : Map ℕ Slot) (is : AreBlocks leaves index) where
  replaced_alike : (v : ℕ) (slot : Slot) → get nat_cmp index (v / 512) ≡ Some slot → entries_by leaves (replace nat_cmp index (v / 512) slot) ≡ entries_by leaves index
  replaced_alike v slot h = node.node-same (slot_entries leaves) block_number IsSlot (IsSlotOf leaves) (slot_part leaves) blocks_upwards index is v slot slot h refl

  -- where the block of a page number has nothing at it, nothing is taken away
  pub blocks-absent : (v : ℕ) (slot : Slot) → get nat_cmp index (v / 512) ≡ Some slot → without nat_cmp (slot_entries leaves slot) v ≡ slot_entries leaves slot
      → without nat_cmp (entries_by leaves index) v ≡ entries_by leaves index
  blocks-absent v slot h none = sym (blocks-without leaves index is v slot slot h (sym none)) ∙ replaced_alike v slot h

  -- an entry of a block has the block's number
  pub own_block : (block v : ℕ) (slot : Slot) (e : Entry) → get nat_cmp index block ≡ Some slot → get nat_cmp (slot_entries leaves slot) v ≡ Some e → v / 512 ≡ block
  own_block block v slot e h found =
      elim (one_or_other (v / 512) block) as (λ _. v / 512 ≡ block) [
        | yes z ↦ z
        | no n ↦ absurd (none_some (sym (none_elsewhere block_number blocks_upwards block (slot_entries leaves slot) v (slot_part leaves slot block tt (blocks-found leaves index is block slot h)) n) ∙ found))
      ]

  pub walk-at : (block : ℕ) (slot : Slot) (v : ℕ) → get nat_cmp index block ≡ Some slot → v / 512 ≡ block → get nat_cmp (entries_by leaves index) v ≡ get nat_cmp (slot_entries leaves slot) v
  walk-at block slot v h z = blocks-get leaves index is v slot (ap (get nat_cmp index) z ∙ h)

  -- a walk from a page number on, before which there is nothing up to a block
  module _ (at from : ℕ) (before : (v : ℕ) → at ≤ v → v / 512 < from → get nat_cmp (entries_by leaves index) v ≡ None) (block : ℕ) (none : (k : ℕ) → from ≤ k → k < block → get nat_cmp index k ≡ None) where
    before_it : (v : ℕ) → at ≤ v → v / 512 < block → Dec (v / 512 < from) → get nat_cmp (entries_by leaves index) v ≡ None
    before_it v low high (yes l) = before v low l
    before_it v low high (no n) = blocks-none leaves index is v (none (v / 512) (omega (arith, n)) high)

    pub walk-before : (v : ℕ) → at ≤ v → v / 512 < block → get nat_cmp (entries_by leaves index) v ≡ None
    walk-before v low high = before_it v low high (dec_lt (v / 512) from)

    on_it : (slot : Slot) → get nat_cmp index block ≡ Some slot → (v : ℕ) → at ≤ v → v / 512 < block + 1 → get nat_cmp (slot_entries leaves slot) v ≡ None → Dec (v / 512 ≡ block) → get nat_cmp (entries_by leaves index) v ≡ None
    on_it slot h v low high nothing (yes z) = walk-at block slot v h z ∙ nothing
    on_it slot h v low high nothing (no n) = walk-before v low (apart_below (v / 512) block high n)

    pub walk-on : (slot : Slot) → get nat_cmp index block ≡ Some slot → (v : ℕ) → at ≤ v → v / 512 < block + 1 → get nat_cmp (slot_entries leaves slot) v ≡ None → get nat_cmp (entries_by leaves index) v ≡ None
    walk-on slot h v low high nothing = on_it slot h v low high nothing (one_or_other (v / 512) block)

    -- the first entry of the block is the first of all
    pub walk-first : (slot : Slot) (k : ℕ) (e : Entry) → get nat_cmp index block ≡ Some slot → get nat_cmp (slot_entries leaves slot) k ≡ Some e
        → ((v : ℕ) → at ≤ v → v < k → get nat_cmp (slot_entries leaves slot) v ≡ None) → (v : ℕ) → at ≤ v → v < k → get nat_cmp (entries_by leaves index) v ≡ None
    walk-first slot k e h found first v low high =
        let own = own_block block k slot e h found in
        walk-on slot h v low (omega (arith, own, high)) (first v low high)

module _ {A : Type 0} where
  -- the entries of a table are in ascending order
  pub ordered_by : (blocks : Blocks A) (m : Map ℕ Entry) → block_entries blocks ≡ m → IsBlocks blocks → IsStrictlySortedBy nat_cmp (keys_of m)
  ordered_by blocks m e is = subst (λ m. IsStrictlySortedBy nat_cmp (keys_of m)) e (blocks-ordered blocks.leaves.items blocks.index is.0)
