-- Leaves that their blocks name, and blocks that have entries, after one of them is changed.
use Rattle.std.proofs.Common.{◌≡◌, ℕ, zero, suc, ◌/◌, ◌<◌, List, [], ◌∷◌, ◌++◌, length, refl, sym, ap, subst, ◌∙◌, arith}
use Rattle.std.specs.Prelude.{Some, None, IsSome, slice_get, set as put}
use Rattle.std.specs.List.Sorted.{IsStrictlySortedBy}
use Rattle.std.specs.Map.{keys_of}
use Rattle.std.specs.Ordering.{nat_cmp}
use Rattle.std.specs.Cmp.{nat_cmp_total}
use Rattle.std.proofs.lemmas.Map.Lookups.{exact_unsigned}
use Rattle.std.proofs.Math.Decide.{dec_lt}
use Rattle.nm_types.specs.Map.{Map, get, set, replace, without}
use Rattle.nm_types.proofs.Cases.{none_some, some_is}
use Rattle.nm_types.proofs.Maps.{get-replace}
use Rattle.nm_tables.specs.views.Leaves.{leaf_entries}
use Rattle.nm_tables.specs.views.Blocks.{entries_there, slot_entries, AreBlocks, EachLeafIsNamed, EachHasEntries}
use Rattle.nm_types.specs.declared.entry.Entry.{Entry}
use Rattle.nm_tables.specs.declared.places.Places.{Places}
use Rattle.nm_tables.specs.declared.slot.Slot.{Slot}
use Rattle.nm_tables.specs.declared.slot.Slot.TheVariants.{Lone, Leaf}
use Rattle.nm_tables.proofs.Joined.{one_or_other, get-without, at_once, at_other}
use Rattle.nm_tables.proofs.Changed.{get-put, get-put_other}
use Rattle.nm_tables.proofs.Slots.{within, blocks-found, get-written, get-written_other, get-behind, get-before, other_slot, behind_slot}

-- what holds of leaves and an index holds of those that they are equal to
pub carried : {ls ms : List Places} {m n : Map ℕ Slot} (P : List Places → Map ℕ Slot → Type 0) → ms ≡ ls → n ≡ m → P ls m → P ms n
carried {ls} {ms} {m} {n} P leaves index h = subst (λ xs. P xs n) (sym leaves) (subst (P ls) (sym index) h)

-- what is found after one key is changed
module _ {V : Type 0} (m : Map ℕ V) (b : ℕ) where
  pub replaced_here : (x : V) → IsSome (get nat_cmp m b) → get nat_cmp (replace nat_cmp m b x) b ≡ Some x
  replaced_here x there = get-replace nat_cmp_total exact_unsigned m b x b there ∙ at_once b b (Some x) (get nat_cmp m b) refl

  pub replaced_other : (x : V) → IsSome (get nat_cmp m b) → (k : ℕ) → (k ≡ b → ⊥) → get nat_cmp (replace nat_cmp m b x) k ≡ get nat_cmp m k
  replaced_other x there k apart = get-replace nat_cmp_total exact_unsigned m b x k there ∙ at_other b k (Some x) (get nat_cmp m k) (λ z. apart (sym z))

  pub taken_here : IsStrictlySortedBy nat_cmp (keys_of m) → get nat_cmp (without nat_cmp m b) b ≡ None
  taken_here sorted = get-without m b b sorted ∙ at_once b b None (get nat_cmp m b) refl

  pub taken_other : IsStrictlySortedBy nat_cmp (keys_of m) → (k : ℕ) → (k ≡ b → ⊥) → get nat_cmp (without nat_cmp m b) k ≡ get nat_cmp m k
  taken_other sorted k apart = get-without m b k sorted ∙ at_other b k None (get nat_cmp m k) (λ z. apart (sym z))

lone_some : (v : ℕ) (e : Entry) → slot_entries [] (Lone v e) ≡ [] → ⊥
lone_some v e none = cc

lone_leaf : (v i : ℕ) (e : Entry) → Lone v e ≡ Leaf i → ⊥
lone_leaf v i e same = cc

behind_past : (leaves : List Places) (q : Places) (j : ℕ) → length leaves < j → slice_get (leaves ++ q ∷ []) j ≡ None
behind_past [] q zero l = absurd (omega (arith, l))
behind_past [] q (suc j) l = refl
behind_past (leaf ∷ leaves) q zero l = absurd (omega (arith, l))
behind_past (leaf ∷ leaves) q (suc j) l = behind_past leaves q j (omega (arith, l))

past_it : (j n : ℕ) → (j < n → ⊥) → (j ≡ n → ⊥) → n < j
past_it j n low same = grind arith

-- the other blocks have what they had
module _ (index new : Map ℕ Slot) (b : ℕ) (others : (k : ℕ) → (k ≡ b → ⊥) → get nat_cmp new k ≡ get nat_cmp index k) where
  named_elsewhere : (leaves : List Places) → ((i : ℕ) → get nat_cmp index b ≡ Some (Leaf i) → ⊥) → EachLeafIsNamed leaves index → EachLeafIsNamed leaves new
  named_elsewhere leaves none named i leaf at =
      let found = named i leaf at in
      others leaf.block (λ z. none i (ap (get nat_cmp index) (sym z) ∙ found)) ∙ found

  has_elsewhere : (leaves after : List Places) → ((k : ℕ) (slot : Slot) → (k ≡ b → ⊥) → get nat_cmp index k ≡ Some slot → slot_entries after slot ≡ slot_entries leaves slot)
      → EachHasEntries leaves index → ((slot : Slot) → get nat_cmp new b ≡ Some slot → slot_entries after slot ≡ [] → ⊥) → EachHasEntries after new
  has_elsewhere leaves after same has here k slot h none =
      elim (one_or_other k b) as (λ _. ⊥) [
        | yes z ↦ here slot (ap (get nat_cmp new) (sym z) ∙ h) none
        | no n ↦ let before = sym (others k n) ∙ h in has k slot before (sym (same k slot n before) ∙ none)
      ]

module _ (leaves : List Places) (index : Map ℕ Slot) (named : EachLeafIsNamed leaves index) (has : EachHasEntries leaves index) where
  -- a block gets its first entry
  pub new_named : (b : ℕ) (slot : Slot) → get nat_cmp index b ≡ None → EachLeafIsNamed leaves (set nat_cmp index b slot)
  new_named b slot none = named_elsewhere index (set nat_cmp index b slot) b (get-put_other index b slot) leaves (λ i h. none_some (sym none ∙ h)) named

  pub new_has : (b v : ℕ) (e : Entry) → EachHasEntries leaves (set nat_cmp index b (Lone v e))
  new_has b v e =
      has_elsewhere index (set nat_cmp index b (Lone v e)) b (get-put_other index b (Lone v e)) leaves leaves (λ k slot apart h. refl) has
      (λ slot h none. lone_some v e (ap (slot_entries leaves) (some_is (sym (get-put index b (Lone v e)) ∙ h)) ∙ none))

  -- a block with one entry is changed
  module _ (b own : ℕ) (first : Entry) (h : get nat_cmp index b ≡ Some (Lone own first)) where
    no_leaf : (i : ℕ) → get nat_cmp index b ≡ Some (Leaf i) → ⊥
    no_leaf i leaf = lone_leaf own i first (some_is (sym h ∙ leaf))

    there : IsSome (get nat_cmp index b)
    there = subst IsSome (sym h) refl

    pub lone_named : (slot : Slot) → EachLeafIsNamed leaves (replace nat_cmp index b slot)
    lone_named slot = named_elsewhere index (replace nat_cmp index b slot) b (replaced_other index b slot there) leaves no_leaf named

    pub lone_has : (v : ℕ) (e : Entry) → EachHasEntries leaves (replace nat_cmp index b (Lone v e))
    lone_has v e =
        has_elsewhere index (replace nat_cmp index b (Lone v e)) b (replaced_other index b (Lone v e) there) leaves leaves (λ k slot apart h. refl) has
        (λ slot h none. lone_some v e (ap (slot_entries leaves) (some_is (sym (replaced_here index b (Lone v e) there) ∙ h)) ∙ none))

    module _ (sorted : IsStrictlySortedBy nat_cmp (keys_of index)) where
      pub gone_named : EachLeafIsNamed leaves (without nat_cmp index b)
      gone_named = named_elsewhere index (without nat_cmp index b) b (taken_other index b sorted) leaves no_leaf named

      pub gone_has : EachHasEntries leaves (without nat_cmp index b)
      gone_has =
          has_elsewhere index (without nat_cmp index b) b (taken_other index b sorted) leaves leaves (λ k slot apart h. refl) has
          (λ slot h none. none_some (sym (taken_here index b sorted) ∙ h))

    -- it gets a leaf
    module _ (q : Places) where
      behind_named : (own : q.block ≡ b) (i : ℕ) (leaf : Places) → slice_get (leaves ++ q ∷ []) i ≡ Some leaf → Dec (i < length leaves) → Dec (i ≡ length leaves)
          → get nat_cmp (replace nat_cmp index b (Leaf (length leaves))) leaf.block ≡ Some (Leaf i)
      behind_named own i leaf at (yes l) same = lone_named (Leaf (length leaves)) i leaf (sym (get-before leaves q i l) ∙ at)
      behind_named own i leaf at (no n) (yes z) =
          let is : q ≡ leaf = some_is (sym (get-behind leaves q) ∙ sym (ap (slice_get (leaves ++ q ∷ [])) z) ∙ at) in
          ap (get nat_cmp (replace nat_cmp index b (Leaf (length leaves)))) (sym (ap (λ q. q.block) is) ∙ own)
          ∙ replaced_here index b (Leaf (length leaves)) there ∙ ap (λ n. Some (Leaf n)) (sym z)
      behind_named own i leaf at (no n) (no s) = absurd (none_some (sym (behind_past leaves q i (past_it i (length leaves) n s)) ∙ at))

      pub second_named : q.block ≡ b → EachLeafIsNamed (leaves ++ q ∷ []) (replace nat_cmp index b (Leaf (length leaves)))
      second_named own i leaf at = behind_named own i leaf at (dec_lt i (length leaves)) (one_or_other i (length leaves))

      pub second_has : AreBlocks leaves index → (leaf_entries q ≡ [] → ⊥) → EachHasEntries (leaves ++ q ∷ []) (replace nat_cmp index b (Leaf (length leaves)))
      second_has is some =
          has_elsewhere index (replace nat_cmp index b (Leaf (length leaves))) b (replaced_other index b (Leaf (length leaves)) there) leaves (leaves ++ q ∷ [])
          (λ k slot apart h. behind_slot leaves index is q slot k (tt, blocks-found leaves index is k slot h)) has
          (λ slot h none. some (ap entries_there (sym (get-behind leaves q)) ∙ ap (slot_entries (leaves ++ q ∷ [])) (some_is (sym (replaced_here index b (Leaf (length leaves)) there) ∙ h)) ∙ none))

  -- a leaf is written to
  module _ (is : AreBlocks leaves index) (v i : ℕ) (q : Places) (h : get nat_cmp index (v / 512) ≡ Some (Leaf i)) (own : q.block ≡ v / 512) where
    written : slice_get (put leaves i q) i ≡ Some q
    written = get-written leaves i q (within leaves i (v / 512) (blocks-found leaves index is (v / 512) (Leaf i) h).1)

    named_at : (j : ℕ) (leaf : Places) → slice_get (put leaves i q) j ≡ Some leaf → Dec (j ≡ i) → get nat_cmp index leaf.block ≡ Some (Leaf j)
    named_at j leaf at (yes z) =
        let same : q ≡ leaf = some_is (sym written ∙ sym (ap (slice_get (put leaves i q)) z) ∙ at) in
        ap (get nat_cmp index) (sym (ap (λ q. q.block) same) ∙ own) ∙ h ∙ ap (λ n. Some (Leaf n)) (sym z)
    named_at j leaf at (no n) = named j leaf (sym (get-written_other leaves i j q n) ∙ at)

    pub written_named : EachLeafIsNamed (put leaves i q) index
    written_named j leaf at = named_at j leaf at (one_or_other j i)

    pub written_has : (leaf_entries q ≡ [] → ⊥) → EachHasEntries (put leaves i q) index
    written_has some =
        has_elsewhere index index (v / 512) (λ k apart. refl) leaves (put leaves i q) (λ k slot apart h'. other_slot leaves index is v i q h own slot k apart (tt, blocks-found leaves index is k slot h')) has
        (λ slot h' none. some (ap entries_there (sym written) ∙ ap (slot_entries (put leaves i q)) (some_is (sym h ∙ h')) ∙ none))
