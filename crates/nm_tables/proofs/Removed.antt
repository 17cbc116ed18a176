-- The blocks of a page table after one of them is removed with its leaf, whose number the last leaf gets.
use Rattle.std.proofs.Common.{◌≡◌, ℕ, zero, suc, ◌+◌, ◌-◌, ◌/◌, ◌≤◌, ◌<◌, List, Option, [], ◌∷◌, length, get_or, take, refl, sym, ap, subst, ◌∙◌, arith}
use Rattle.std.specs.Prelude.{Some, None, IsSome, slice_get, set as put, swap_remove}
use Rattle.std.specs.Option.{option_map}
use Rattle.std.specs.List.Sorted.{IsStrictlySortedBy}
use Rattle.std.specs.Map.{keys_of}
use Rattle.std.specs.Ordering.{nat_cmp}
use Rattle.std.specs.Cmp.{nat_cmp_total}
use Rattle.std.proofs.lemmas.Map.Lookups.{exact_unsigned}
use Rattle.std.proofs.Math.Decide.{dec_lt}
use Rattle.nm_types.specs.Map.{Map, get, replace, without}
use Rattle.nm_types.proofs.Cases.{none_some, some_is}
use Rattle.nm_types.proofs.Keys.{sorted-without, keys-replace}
use Rattle.nm_types.proofs.Maps.{get-values, keys-values, all_from_get}
use Rattle.nm_tables.specs.definitions.Tree.{flatten}
use Rattle.nm_tables.specs.definitions.Nodes.{slots_shown}
use Rattle.nm_tables.specs.views.Blocks.{entries_there, slot_entries, IsLeafOf, IsSlotOf, IsSlot, entries_by, AreBlocks, EachLeafIsNamed, EachHasEntries}
use Rattle.nm_tables.specs.declared.places.Places.{Places}
use Rattle.nm_tables.specs.declared.slot.Slot.{Slot}
use Rattle.nm_tables.specs.declared.slot.Slot.TheVariants.{Lone, Leaf}
use Rattle.nm_tables.proofs.Joined.{one_or_other, alike}
use Rattle.nm_tables.proofs.Slots.{within, blocks-found, get-written, get-written_other}
use Rattle.nm_tables.proofs.Kept.{replaced_here, replaced_other, taken_here, taken_other}

-- the first of a list, and the item there
get-taken : (leaves : List Places) (m j : ℕ) → j < m → slice_get (take m leaves) j ≡ slice_get leaves j
get-taken [] zero j l = refl
get-taken [] (suc m) j l = refl
get-taken (leaf ∷ leaves) zero j l = absurd (omega (arith, l))
get-taken (leaf ∷ leaves) (suc m) zero l = refl
get-taken (leaf ∷ leaves) (suc m) (suc j) l = get-taken leaves m j (omega (arith, l))

get-past : (leaves : List Places) (m j : ℕ) → m ≤ j → slice_get (take m leaves) j ≡ None
get-past [] zero j l = refl
get-past [] (suc m) j l = refl
get-past (leaf ∷ leaves) zero j l = refl
get-past (leaf ∷ leaves) (suc m) zero l = absurd (omega (arith, l))
get-past (leaf ∷ leaves) (suc m) (suc j) l = get-past leaves m j (omega (arith, l))

get-inside : (leaves : List Places) (j : ℕ) (d : Places) → j < length leaves → slice_get leaves j ≡ Some (get_or leaves j d)
get-inside [] j d l = absurd (omega (arith, l))
get-inside (leaf ∷ leaves) zero d l = refl
get-inside (leaf ∷ leaves) (suc j) d l = get-inside leaves j d (omega (arith, l))

same_block : (o : Option Places) (a b : ℕ) → IsLeafOf o a → IsLeafOf o b → a ≡ b
same_block None a b x y = absurd x
same_block (Some leaf) a b x y = sym x ∙ y

leaf_is : (i j : ℕ) → Leaf i ≡ Leaf j → i ≡ j
leaf_is i j e = cc

-- the slots of one block before and after
Matches : List Places → List Places → ℕ → Option Slot → Option Slot → Type 0
Matches leaves after k None None = Unit {0}
Matches leaves after k None (Some old) = ⊥
Matches leaves after k (Some new) None = ⊥
Matches leaves after k (Some new) (Some old) = (slot_entries after new ≡ slot_entries leaves old) × IsSlotOf after new k

module _ (leaves after : List Places) where
  both_none : (k : ℕ) (o : Option Slot) → o ≡ None → Matches leaves after k o o
  unfolding Matches
  both_none k o none = subst (λ o. Matches leaves after k o o) (sym none) tt

  entries_alike : (k : ℕ) (new old : Option Slot) → Matches leaves after k new old → option_map (slot_entries after) new ≡ option_map (slot_entries leaves) old
  unfolding Matches
  entries_alike k None None m = refl
  entries_alike k None (Some old) m = absurd m
  entries_alike k (Some new) None m = absurd m
  entries_alike k (Some new) (Some old) m = ap Some m.0

  found_alike : (k : ℕ) (slot : Slot) (new old : Option Slot) → Matches leaves after k new old → new ≡ Some slot → IsSlotOf after slot k
  unfolding Matches
  found_alike k slot None old m e = absurd (none_some e)
  found_alike k slot (Some new) None m e = absurd m
  found_alike k slot (Some new) (Some old) m e = subst (λ s. IsSlotOf after s k) (some_is e) m.1

  some_alike : (k : ℕ) (slot : Slot) (new old : Option Slot) → Matches leaves after k new old → new ≡ Some slot → slot_entries after slot ≡ []
      → ((s : Slot) → old ≡ Some s → slot_entries leaves s ≡ [] → ⊥) → ⊥
  unfolding Matches
  some_alike k slot None old m e none has = none_some e
  some_alike k slot (Some new) None m e none has = absurd m
  some_alike k slot (Some new) (Some old) m e none has = has old refl (sym m.0 ∙ ap (slot_entries after) (some_is e) ∙ none)

  -- blocks that match one by one
  module _ (new old : Map ℕ Slot) (sorted_new : IsStrictlySortedBy nat_cmp (keys_of new)) (sorted_old : IsStrictlySortedBy nat_cmp (keys_of old))
      (match : (k : ℕ) → Matches leaves after k (get nat_cmp new k) (get nat_cmp old k)) where
    in_order : {V : Type 0} (f : Slot → Map ℕ V) (m : Map ℕ Slot) → IsStrictlySortedBy nat_cmp (keys_of m) → IsStrictlySortedBy nat_cmp (keys_of (slots_shown f m))
    in_order f m s = subst (IsStrictlySortedBy nat_cmp) (sym (keys-values (λ i x. f x) m)) s

    match-entries : entries_by after new ≡ entries_by leaves old
    match-entries =
        ap flatten (alike (slots_shown (slot_entries after) new) (slots_shown (slot_entries leaves) old) (in_order (slot_entries after) new sorted_new) (in_order (slot_entries leaves) old sorted_old)
        (λ k. get-values exact_unsigned (λ i x. slot_entries after x) new k ∙ entries_alike k (get nat_cmp new k) (get nat_cmp old k) (match k) ∙ sym (get-values exact_unsigned (λ i x. slot_entries leaves x) old k)))

    match-kept : AreBlocks after new
    match-kept = (sorted_new, all_from_get nat_cmp_total exact_unsigned (λ k slot. IsSlot slot × IsSlotOf after slot k) new sorted_new (λ k slot h. (tt, found_alike k slot (get nat_cmp new k) (get nat_cmp old k) (match k) h)))

    match-has : EachHasEntries leaves old → EachHasEntries after new
    match-has has k slot h none = some_alike k slot (get nat_cmp new k) (get nat_cmp old k) (match k) h none (has k)

module _ (leaves : List Places) (index : Map ℕ Slot) (is : AreBlocks leaves index) (named : EachLeafIsNamed leaves index) (has : EachHasEntries leaves index)
    (v n : ℕ) (there : get nat_cmp index (v / 512) ≡ Some (Leaf n)) (x : Places) where
  own : IsLeafOf (slice_get leaves n) (v / 512)
  own = (blocks-found leaves index is (v / 512) (Leaf n) there).1

  inside : n < length leaves
  inside = within leaves n (v / 512) own

  sorted_less : IsStrictlySortedBy nat_cmp (keys_of (without nat_cmp index (v / 512)))
  sorted_less = sorted-without nat_cmp index (v / 512) is.0

  -- a leaf that is neither the one that goes nor the last keeps its number
  same_at : (j : ℕ) → j + 1 < length leaves → (j ≡ n → ⊥) → slice_get (swap_remove leaves n x) j ≡ slice_get leaves j
  same_at j l apart = get-taken (put leaves n (get_or leaves (length leaves - 1) x)) (length leaves - 1) j (omega (arith, l)) ∙ get-written_other leaves n j (get_or leaves (length leaves - 1) x) apart

  other : (k j : ℕ) → (k ≡ v / 512 → ⊥) → IsLeafOf (slice_get leaves j) k → j ≡ n → ⊥
  other k j apart of e = apart (same_block (slice_get leaves n) k (v / 512) (subst (λ j. IsLeafOf (slice_get leaves j) k) e of) own)

  unchanged : (k : ℕ) → (k ≡ v / 512 → ⊥) → ((j : ℕ) → IsLeafOf (slice_get leaves j) k → j + 1 < length leaves) → (o : Option Slot) → get nat_cmp index k ≡ o → Matches leaves (swap_remove leaves n x) k o o
  unfolding Matches
  unchanged k apart low None h = tt
  unchanged k apart low (Some (Lone w e)) h = (refl, blocks-found leaves index is k (Lone w e) h)
  unchanged k apart low (Some (Leaf j)) h =
      let found = blocks-found leaves index is k (Leaf j) h in
      let same = same_at j (low j found.1) (other k j apart found.1) in
      (ap entries_there same, (found.0, subst (λ o. IsLeafOf o k) (sym same) found.1))

  less_has : EachHasEntries leaves (without nat_cmp index (v / 512))
  less_has k slot h =
      elim (one_or_other k (v / 512)) as (λ _. slot_entries leaves slot ≡ [] → ⊥) [
        | yes z ↦ absurd (none_some (sym (taken_here index (v / 512) is.0) ∙ sym (ap (get nat_cmp (without nat_cmp index (v / 512))) z) ∙ h))
        | no apart ↦ has k slot (sym (taken_other index (v / 512) is.0 k apart) ∙ h)
      ]

  -- where a block is as it was
  at_other_block : (k : ℕ) → ((j : ℕ) → (k ≡ v / 512 → ⊥) → IsLeafOf (slice_get leaves j) k → j + 1 < length leaves)
      → Matches leaves (swap_remove leaves n x) k (get nat_cmp (without nat_cmp index (v / 512)) k) (get nat_cmp (without nat_cmp index (v / 512)) k)
  at_other_block k low =
      elim (one_or_other k (v / 512)) as (λ _. Matches leaves (swap_remove leaves n x) k (get nat_cmp (without nat_cmp index (v / 512)) k) (get nat_cmp (without nat_cmp index (v / 512)) k)) [
        | yes z ↦ both_none leaves (swap_remove leaves n x) k (get nat_cmp (without nat_cmp index (v / 512)) k) (ap (get nat_cmp (without nat_cmp index (v / 512))) z ∙ taken_here index (v / 512) is.0)
        | no apart ↦
            subst (λ o. Matches leaves (swap_remove leaves n x) k o o) (sym (taken_other index (v / 512) is.0 k apart)) (unchanged k apart (λ j. low j apart) (get nat_cmp index k) refl)
      ]

  past_end : (i : ℕ) (leaf : Places) → slice_get (swap_remove leaves n x) i ≡ Some leaf → Dec (i + 1 < length leaves) → i + 1 < length leaves
  past_end i leaf at (yes l) = l
  past_end i leaf at (no s) = absurd (none_some (sym (get-past (put leaves n (get_or leaves (length leaves - 1) x)) (length leaves - 1) i (omega (arith, s))) ∙ at))

  -- a leaf that keeps its number is of another block
  named_other : (i : ℕ) (leaf : Places) → slice_get leaves i ≡ Some leaf → (i ≡ n → ⊥) → leaf.block ≡ v / 512 → ⊥
  named_other i leaf at apart z = apart (leaf_is i n (some_is (sym (named i leaf at) ∙ ap (get nat_cmp index) z ∙ there)))

  -- the last leaf itself is removed
  module _ (last : n + 1 ≡ length leaves) where
    last_match : (k : ℕ) → Matches leaves (swap_remove leaves n x) k (get nat_cmp (without nat_cmp index (v / 512)) k) (get nat_cmp (without nat_cmp index (v / 512)) k)
    last_match k = at_other_block k (λ j apart of. let low = within leaves j k of in let differs = other k j apart of in not_last j low differs)
      where
        not_last : (j : ℕ) → j < length leaves → (j ≡ n → ⊥) → j + 1 < length leaves
        not_last j low differs = grind arith

    pub last-entries : entries_by (swap_remove leaves n x) (without nat_cmp index (v / 512)) ≡ entries_by leaves (without nat_cmp index (v / 512))
    last-entries = match-entries leaves (swap_remove leaves n x) (without nat_cmp index (v / 512)) (without nat_cmp index (v / 512)) sorted_less sorted_less last_match

    pub last-kept : AreBlocks (swap_remove leaves n x) (without nat_cmp index (v / 512))
    last-kept = match-kept leaves (swap_remove leaves n x) (without nat_cmp index (v / 512)) (without nat_cmp index (v / 512)) sorted_less sorted_less last_match

    pub last-has : EachHasEntries (swap_remove leaves n x) (without nat_cmp index (v / 512))
    last-has = match-has leaves (swap_remove leaves n x) (without nat_cmp index (v / 512)) (without nat_cmp index (v / 512)) sorted_less sorted_less last_match less_has

    pub last-named : EachLeafIsNamed (swap_remove leaves n x) (without nat_cmp index (v / 512))
    last-named i leaf at =
        let low = past_end i leaf at (dec_lt (i + 1) (length leaves)) in
        let apart : i ≡ n → ⊥ = λ z. absurd (omega (arith, low, z, last)) in
        let before = sym (same_at i low apart) ∙ at in
        taken_other index (v / 512) is.0 leaf.block (named_other i leaf before apart) ∙ named i leaf before

  -- the last leaf takes the number
  module _ (more : n + 1 < length leaves) (p : Places) (moved : slice_get (swap_remove leaves n x) n ≡ Some p) where
    was : slice_get (swap_remove leaves n x) n ≡ slice_get leaves (length leaves - 1)
    was =
        get-taken (put leaves n (get_or leaves (length leaves - 1) x)) (length leaves - 1) n (omega (arith, more)) ∙ get-written leaves n (get_or leaves (length leaves - 1) x) inside
        ∙ sym (get-inside leaves (length leaves - 1) x (omega (arith, more)))

    was_last : slice_get leaves (length leaves - 1) ≡ Some p
    was_last = sym was ∙ moved

    its_slot : get nat_cmp index p.block ≡ Some (Leaf (length leaves - 1))
    its_slot = named (length leaves - 1) p was_last

    another : p.block ≡ v / 512 → ⊥
    another = named_other (length leaves - 1) p was_last (λ z. absurd (omega (arith, more, z)))

    pub moved-slot : get nat_cmp (without nat_cmp index (v / 512)) p.block ≡ Some (Leaf (length leaves - 1))
    moved-slot = taken_other index (v / 512) is.0 p.block another ∙ its_slot

    pub moved-there : IsSome (get nat_cmp (without nat_cmp index (v / 512)) p.block)
    moved-there = subst IsSome (sym moved-slot) refl

    sorted_moved : IsStrictlySortedBy nat_cmp (keys_of (replace nat_cmp (without nat_cmp index (v / 512)) p.block (Leaf n)))
    sorted_moved = subst (IsStrictlySortedBy nat_cmp) (sym (keys-replace nat_cmp (without nat_cmp index (v / 512)) p.block (Leaf n))) sorted_less

    not_last : (k : ℕ) → (k ≡ p.block → ⊥) → (j : ℕ) → IsLeafOf (slice_get leaves j) k → Dec (j ≡ length leaves - 1) → j + 1 < length leaves
    not_last k apart j of (yes z) = absurd (apart (sym (subst (λ o. IsLeafOf o k) was_last (subst (λ j. IsLeafOf (slice_get leaves j) k) z of))))
    not_last k apart j of (no s) = let low = within leaves j k of in below_last j low s
      where
        below_last : (j : ℕ) → j < length leaves → (j ≡ length leaves - 1 → ⊥) → j + 1 < length leaves
        below_last j low s = grind arith

    moved_match : (k : ℕ) → Matches leaves (swap_remove leaves n x) k (get nat_cmp (replace nat_cmp (without nat_cmp index (v / 512)) p.block (Leaf n)) k) (get nat_cmp (without nat_cmp index (v / 512)) k)
    unfolding Matches
    moved_match k =
        elim (one_or_other k p.block) as (λ _. Matches leaves (swap_remove leaves n x) k (get nat_cmp (replace nat_cmp (without nat_cmp index (v / 512)) p.block (Leaf n)) k) (get nat_cmp (without nat_cmp index (v / 512)) k)) [
          | yes z ↦
              let found = blocks-found leaves index is p.block (Leaf (length leaves - 1)) its_slot in
              let at_block : Matches leaves (swap_remove leaves n x) p.block (Some (Leaf n)) (Some (Leaf (length leaves - 1))) =
              (ap entries_there was, (found.0, subst (λ o. IsLeafOf o p.block) (sym was) found.1)) in
              subst (λ k. Matches leaves (swap_remove leaves n x) k (get nat_cmp (replace nat_cmp (without nat_cmp index (v / 512)) p.block (Leaf n)) k) (get nat_cmp (without nat_cmp index (v / 512)) k)) (sym z)
              (subst (λ o. Matches leaves (swap_remove leaves n x) p.block o (get nat_cmp (without nat_cmp index (v / 512)) p.block)) (sym (replaced_here (without nat_cmp index (v / 512)) p.block (Leaf n) moved-there))
              (subst (Matches leaves (swap_remove leaves n x) p.block (Some (Leaf n))) (sym moved-slot) at_block))
          | no s ↦
              subst (λ o. Matches leaves (swap_remove leaves n x) k o (get nat_cmp (without nat_cmp index (v / 512)) k)) (sym (replaced_other (without nat_cmp index (v / 512)) p.block (Leaf n) moved-there k s))
              (at_other_block k (λ j apart of. not_last k s j of (one_or_other j (length leaves - 1))))
        ]

    pub moved-entries : entries_by (swap_remove leaves n x) (replace nat_cmp (without nat_cmp index (v / 512)) p.block (Leaf n)) ≡ entries_by leaves (without nat_cmp index (v / 512))
    moved-entries = match-entries leaves (swap_remove leaves n x) (replace nat_cmp (without nat_cmp index (v / 512)) p.block (Leaf n)) (without nat_cmp index (v / 512)) sorted_moved sorted_less moved_match

    pub moved-kept : AreBlocks (swap_remove leaves n x) (replace nat_cmp (without nat_cmp index (v / 512)) p.block (Leaf n))
    moved-kept = match-kept leaves (swap_remove leaves n x) (replace nat_cmp (without nat_cmp index (v / 512)) p.block (Leaf n)) (without nat_cmp index (v / 512)) sorted_moved sorted_less moved_match

    pub moved-has : EachHasEntries (swap_remove leaves n x) (replace nat_cmp (without nat_cmp index (v / 512)) p.block (Leaf n))
    moved-has = match-has leaves (swap_remove leaves n x) (replace nat_cmp (without nat_cmp index (v / 512)) p.block (Leaf n)) (without nat_cmp index (v / 512)) sorted_moved sorted_less moved_match less_has

    named_at : (i : ℕ) (leaf : Places) → slice_get (swap_remove leaves n x) i ≡ Some leaf → i + 1 < length leaves → Dec (i ≡ n)
        → get nat_cmp (replace nat_cmp (without nat_cmp index (v / 512)) p.block (Leaf n)) leaf.block ≡ Some (Leaf i)
    named_at i leaf at low (yes z) =
        let same : p ≡ leaf = some_is (sym moved ∙ sym (ap (slice_get (swap_remove leaves n x)) z) ∙ at) in
        ap (get nat_cmp (replace nat_cmp (without nat_cmp index (v / 512)) p.block (Leaf n))) (sym (ap (λ p. p.block) same))
        ∙ replaced_here (without nat_cmp index (v / 512)) p.block (Leaf n) moved-there ∙ ap (λ n. Some (Leaf n)) (sym z)
    named_at i leaf at low (no s) =
        let before = sym (same_at i low s) ∙ at in
        let differs : leaf.block ≡ p.block → ⊥ = λ z. let q : i ≡ length leaves - 1 = leaf_is i (length leaves - 1) (some_is (sym (named i leaf before) ∙ ap (get nat_cmp index) z ∙ its_slot)) in absurd (omega (arith, low, q)) in
        replaced_other (without nat_cmp index (v / 512)) p.block (Leaf n) moved-there leaf.block differs
        ∙ taken_other index (v / 512) is.0 leaf.block (named_other i leaf before s) ∙ named i leaf before

    pub moved-named : EachLeafIsNamed (swap_remove leaves n x) (replace nat_cmp (without nat_cmp index (v / 512)) p.block (Leaf n))
    moved-named i leaf at = named_at i leaf at (past_end i leaf at (dec_lt (i + 1) (length leaves))) (one_or_other i n)
