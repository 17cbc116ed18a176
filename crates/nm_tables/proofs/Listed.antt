-- What a leaf, the parts of a node and a page table have from one page number to another.
use Rattle.std.proofs.Common.{◌≡◌, ℕ, ◌+◌, ◌*◌, ◌/◌, ◌^◌, ◌≤◌, ◌<◌, List, Option, [], ◌∷◌, ◌++◌, length, get_or, take, drop, false, cond, refl, sym, ap, subst, ◌∙◌, arith, append-nil, append_assoc}
use Rattle.std.specs.Prelude.{Some, None}
use Rattle.std.specs.List.{AllByRecursion}
use Rattle.std.specs.List.Sorted.{IsStrictlySortedBy}
use Rattle.std.specs.Map.{keys_of}
use Rattle.std.specs.Ordering.{nat_cmp}
use Rattle.std.specs.Cmp.{ranked}
use Rattle.std.specs.declared.cmp.Ordering.TheVariants.{Less}
use Rattle.std.specs.declared.ops.Bound.TheVariants.{Included}
use Rattle.std.specs.BTreeMap.Range.{range_contains}
use Rattle.std.proofs.Math.Decide.{dec_lt}
use Rattle.std.proofs.lemmas.List.{drop_more, length-append, take-append-drop}
use Rattle.std.proofs.lemmas.List.Elements.{filter-append}
use Rattle.nm_types.specs.Map.{Map, get}
use Rattle.nm_tables.specs.definitions.Tree.{flatten, IsPart}
use Rattle.nm_tables.specs.laws.Orders.{all-append}
use Rattle.nm_tables.specs.definitions.Nodes.{slots_shown, IsNode}
use Rattle.nm_tables.specs.definitions.Parts.{BeginsAt}
use Rattle.nm_tables.specs.views.Leaves.{leaf_entries, leaf_ordered, stands_at}
use Rattle.nm_tables.specs.definitions.Lists.{Extends, IsCutShort}
use Rattle.nm_tables.specs.views.Blocks.{entries_there, slot_entries, IsOf, IsSlot, IsSlotOf, entries_by, AreBlocks}
use Rattle.nm_types.specs.declared.entry.Entry.{Entry}
use Rattle.nm_tables.specs.declared.places.Places.{Places}
use Rattle.nm_tables.specs.declared.slot.Slot.{Slot}
use Rattle.nm_tables.specs.declared.slot.Slot.TheVariants.{Leaf}
use Rattle.nm_tables.proofs.Leaves.{leaf-at, leaf-none}
use Rattle.nm_tables.proofs.Slots.{block_number, slot_part, leaf_found, blocks-ordered, blocks-found, blocks-none}
use Rattle.nm_tables.proofs.Within.{within, below, beyond, within_from, within_none, within_all, within_next}

-- more is appended
pub extended : {X : Type 0} (old now more new : List X) → Extends old now → new ≡ now ++ more → Extends old new
extended old now more new was e = (was.0 ++ more, e ∙ ap (λ l. l ++ more) was.1 ∙ append_assoc old was.0 more)

pub extended_by : {X : Type 0} (old now new : List X) → Extends old now → Extends now new → Extends old new
extended_by old now new was then = extended old now then.0 new was then.1

pub unextended : {X : Type 0} (old : List X) → Extends old old
unextended old = ([], sym (append-nil old))

-- more was to come than was appended
pub cut_short : {X : Type 0} (all now new : List X) (next : X) (more : List X) → now ++ next ∷ more ≡ all → new ≡ now → IsCutShort new all
cut_short all now new next more is same = (next, more, sym is ∙ ap (λ l. l ++ next ∷ more) (sym same))

pub cut_shorter : {X : Type 0} (new now rest all : List X) → IsCutShort new now → now ++ rest ≡ all → IsCutShort new all
cut_shorter new now rest all cut is = (cut.0, cut.1 ++ rest, sym is ∙ ap (λ l. l ++ rest) cut.2 ∙ append_assoc new (cut.0 ∷ cut.1) rest)

pub some_left_out : {X : Type 0} (new all : List X) → IsCutShort new all → 0 < length all
some_left_out new all cut = omega (arith, ap length cut.2, length-append new (cut.0 ∷ cut.1))

module _ (p : Places) (last : ℕ) where
  -- a walk begins at the first place that is not before
  pub leaf-first : (first from : ℕ) → ((i : ℕ) → i < 512 → first ≤ p.block * 512 + i → from ≤ i) → ((i : ℕ) → from ≤ i → i < 512 → first ≤ p.block * 512 + i)
      → within first last (leaf_entries p) ≡ within (p.block * 512 + from) last (leaf_entries p)
  leaf-first first from reached beyond =
      within_from last (leaf_entries p) (leaf_ordered p) first (p.block * 512 + from)
      (λ q low high. leaf-none p q (λ i l e. let r = reached i l (omega (arith, low, e)) in absurd (omega (arith, r, high, e))))
      (λ q low high. leaf-none p q (λ i l e. let r = beyond i (omega (arith, low, e)) l in absurd (omega (arith, r, high, e))))

  module _ (from : ℕ) where
    pub leaf-next : (place : ℕ) (e : Entry) → from ≤ place → place < 512 → ((i : ℕ) → from ≤ i → i < place → stands_at p i ≡ None) → stands_at p place ≡ Some e → p.block * 512 + place ≤ last
        → within (p.block * 512 + from) last (leaf_entries p) ≡ (p.block * 512 + place, e) ∷ within (p.block * 512 + (place + 1)) last (leaf_entries p)
    leaf-next place e low fits none here high =
        let one_on : p.block * 512 + place + 1 ≡ p.block * 512 + (place + 1) = omega arith in
        within_next last (leaf_entries p) (leaf_ordered p) (p.block * 512 + from) (p.block * 512 + place) e (omega (arith, low)) high (leaf-at p place fits ∙ here)
        (λ k a b. leaf-none p k (λ i l z. none i (omega (arith, a, z)) (omega (arith, b, z))))
        ∙ ap (λ n. (p.block * 512 + place, e) ∷ within n last (leaf_entries p)) one_on

    -- it ends at an entry that is beyond, or where none is left
    pub leaf-beyond : (place : ℕ) → ((i : ℕ) → from ≤ i → i < place → stands_at p i ≡ None) → last < p.block * 512 + place → within (p.block * 512 + from) last (leaf_entries p) ≡ []
    leaf-beyond place none high =
        within_none last (leaf_entries p) (leaf_ordered p) (p.block * 512 + from) (λ k a b. leaf-none p k (λ i l z. none i (omega (arith, a, z)) (omega (arith, b, z, high))))

    pub leaf-done : ((i : ℕ) → from ≤ i → i < 512 → stands_at p i ≡ None) → within (p.block * 512 + from) last (leaf_entries p) ≡ []
    leaf-done none = within_none last (leaf_entries p) (leaf_ordered p) (p.block * 512 + from) (λ k a b. leaf-none p k (λ i l z. none i (omega (arith, a, z)) l))

module _ {X : Type 0} (P : X → Type 0) where
  all_first : (a b : List X) → AllByRecursion P (a ++ b) → AllByRecursion P a
  all_first [] b h = tt
  all_first (x ∷ a) b h = (h.0, all_first a b h.1)

  all_second : (a b : List X) → AllByRecursion P (a ++ b) → AllByRecursion P b
  all_second [] b h = h
  all_second (x ∷ a) b h = all_second a b h.1

  all_weaker : (Q : X → Type 0) → ((x : X) → P x → Q x) → (xs : List X) → AllByRecursion P xs → AllByRecursion Q xs
  all_weaker Q f [] h = tt
  all_weaker Q f (x ∷ xs) h = (f x h.0, all_weaker Q f xs h.1)

module _ {P : Type 0} where
  keys_first : (Q : ℕ → Type 0) (a b : Map ℕ P) → AllByRecursion Q (keys_of (a ++ b)) → AllByRecursion Q (keys_of a)
  keys_first Q [] b h = tt
  keys_first Q (e ∷ a) b h = (h.0, keys_first Q a b h.1)

  sorted_first : (a b : Map ℕ P) → IsStrictlySortedBy nat_cmp (keys_of (a ++ b)) → IsStrictlySortedBy nat_cmp (keys_of a)
  unfolding IsStrictlySortedBy
  sorted_first [] b s = tt
  sorted_first (e ∷ a) b s = (keys_first (λ k. nat_cmp e.0 k ≡ Less) a b s.0, sorted_first a b s.1)

  sorted_second : (a b : Map ℕ P) → IsStrictlySortedBy nat_cmp (keys_of (a ++ b)) → IsStrictlySortedBy nat_cmp (keys_of b)
  unfolding IsStrictlySortedBy
  sorted_second [] b s = s
  sorted_second (e ∷ a) b s = sorted_second a b s.1

  keys_later : (e : ℕ × P) (ps : Map ℕ P) → IsStrictlySortedBy nat_cmp (keys_of (e ∷ ps)) → AllByRecursion (λ k. nat_cmp e.0 k ≡ Less) (keys_of ps)
  unfolding IsStrictlySortedBy
  keys_later e ps s = s.0

  module _ (whole : P → Type 0) (is_in : P → ℕ → Type 0) where
    -- some first parts of a node, and those after them
    pub node_first : (a b : Map ℕ P) → IsNode whole is_in (a ++ b) → IsNode whole is_in a
    node_first a b is = (sorted_first a b is.0, all_first (λ e. whole e.1 × is_in e.1 e.0) a b is.1)

    pub node_second : (a b : Map ℕ P) → IsNode whole is_in (a ++ b) → IsNode whole is_in b
    node_second a b is = (sorted_second a b is.0, all_second (λ e. whole e.1 × is_in e.1 e.0) a b is.1)

    pub later_kept : (e : ℕ × P) (ps : Map ℕ P) → IsNode whole is_in (e ∷ ps) → IsNode whole is_in ps
    later_kept e ps is = node_second (e ∷ []) ps is

module _ {P V : Type 0} (entries : P → Map ℕ V) where
  -- the entries of some parts, and of others after them
  pub joined-append : (a b : Map ℕ P) → flatten (slots_shown entries (a ++ b)) ≡ flatten (slots_shown entries a) ++ flatten (slots_shown entries b)
  joined-append [] b = refl
  joined-append (e ∷ a) b = ap (λ m. entries e.1 ++ m) (joined-append a b) ∙ sym (append_assoc (entries e.1) (flatten (slots_shown entries a)) (flatten (slots_shown entries b)))

  module _ (number : ℕ → ℕ) (whole : P → Type 0) (is_in : P → ℕ → Type 0)
      (part : (x : P) (i : ℕ) → whole x → is_in x i → IsPart number i (entries x)) (Q : ℕ → Type 0) where
    of_part : (i : ℕ) (ks : List ℕ) → AllByRecursion (λ k. number k ≡ i) ks → Q i → AllByRecursion (λ k. Q (number k)) ks
    of_part i [] h q = tt
    of_part i (k ∷ ks) h q = (subst Q (sym h.0) q, of_part i ks h.1 q)

    -- what holds of the parts' numbers holds of those of their keys
    of_keys : (parts : Map ℕ P) → AllByRecursion (λ e. whole e.1 × is_in e.1 e.0) parts → AllByRecursion Q (keys_of parts)
        → AllByRecursion (λ k. Q (number k)) (keys_of (flatten (slots_shown entries parts)))
    of_keys [] h q = tt
    of_keys (e ∷ parts) h q =
        all-append (λ k. Q (number k)) (entries e.1) (flatten (slots_shown entries parts))
        (of_part e.0 (keys_of (entries e.1)) (part e.1 e.0 h.0.0 h.0.1).1 q.0) (of_keys parts h.1 q.1)

module _ (first last : ℕ) where
  nothing : (m : Map ℕ Entry) → AllByRecursion (λ k. range_contains nat_cmp (Included first) (Included last) k ≡ false) (keys_of m) → within first last m ≡ []
  nothing [] h = refl
  nothing (e ∷ m) h = ap (λ b. cond b (e ∷ within first last m) (within first last m)) h.0 ∙ nothing m h.1

module _ {P : Type 0} (slots : P → Map ℕ Slot) (number : ℕ → ℕ) (whole : P → Type 0) (is_in : P → ℕ → Type 0)
    (part : (x : P) (i : ℕ) → whole x → is_in x i → IsPart number i (slots x)) (upwards : (a b : ℕ) → a ≤ b → number a ≤ number b)
    (leaves : List Places) (first last : ℕ) where
  -- what these parts have there
  abbrev pub there : Map ℕ P → Map ℕ Entry
  there parts = within first last (entries_by leaves (flatten (slots_shown slots parts)))

  none_there : (Q : ℕ → Type 0) → ((v : ℕ) → Q (number (v / 512)) → range_contains nat_cmp (Included first) (Included last) v ≡ false)
      → (parts : Map ℕ P) → IsNode whole is_in parts → AreBlocks leaves (flatten (slots_shown slots parts)) → AllByRecursion Q (keys_of parts) → there parts ≡ []
  none_there Q out parts is named all =
      nothing first last (entries_by leaves (flatten (slots_shown slots parts)))
      (all_weaker (λ v. Q (number (v / 512))) (λ v. range_contains nat_cmp (Included first) (Included last) v ≡ false) out (keys_of (entries_by leaves (flatten (slots_shown slots parts))))
      (of_keys (slot_entries leaves) block_number IsSlot (IsSlotOf leaves) (slot_part leaves) (λ b. Q (number b)) (flatten (slots_shown slots parts)) named.1
      (of_keys slots number whole is_in part Q parts is.1 all)))

  too_low : (v : ℕ) → number (v / 512) < number (first / 512) → Dec (v < first) → range_contains nat_cmp (Included first) (Included last) v ≡ false
  too_low v l (yes low) = below first last v low
  too_low v l (no n) = let up = upwards (first / 512) (v / 512) (omega (arith, n)) in absurd (omega (arith, up, l))

  too_high : (v : ℕ) → number (last / 512) < number (v / 512) → Dec (last < v) → range_contains nat_cmp (Included first) (Included last) v ≡ false
  too_high v l (yes high) = beyond first last v high
  too_high v l (no n) = let up = upwards (v / 512) (last / 512) (omega (arith, n)) in absurd (omega (arith, up, l))

  there-append : (a b : Map ℕ P) → there (a ++ b) ≡ there a ++ there b
  there-append a b =
      ap (λ m. within first last (entries_by leaves m)) (joined-append slots a b)
      ∙ ap (within first last) (joined-append (slot_entries leaves) (flatten (slots_shown slots a)) (flatten (slots_shown slots b)))
      ∙ filter-append (λ e. range_contains nat_cmp (Included first) (Included last) e.0) (entries_by leaves (flatten (slots_shown slots a))) (entries_by leaves (flatten (slots_shown slots b)))

  -- the parts from the first on that may have a page number there
  module _ (parts : Map ℕ P) (i : ℕ) (is : IsNode whole is_in parts) (named : AreBlocks leaves (flatten (slots_shown slots parts))) where
    apart : IsNode whole is_in (take i parts ++ drop i parts)
    apart = subst (IsNode whole is_in) (sym (take-append-drop i parts)) is

    named_apart : AreBlocks leaves (flatten (slots_shown slots (take i parts)) ++ flatten (slots_shown slots (drop i parts)))
    named_apart = subst (AreBlocks leaves) (ap (λ ps. flatten (slots_shown slots ps)) (sym (take-append-drop i parts)) ∙ joined-append slots (take i parts) (drop i parts)) named

    pub rest_kept : IsNode whole is_in (drop i parts)
    rest_kept = node_second whole is_in (take i parts) (drop i parts) apart

    pub rest_named : AreBlocks leaves (flatten (slots_shown slots (drop i parts)))
    rest_named = node_second IsSlot (IsSlotOf leaves) (flatten (slots_shown slots (take i parts))) (flatten (slots_shown slots (drop i parts))) named_apart

    pub rest_there : BeginsAt parts (number (first / 512)) i → there (drop i parts) ≡ there parts
    rest_there begins =
        ap (λ m. m ++ there (drop i parts))
        (sym (none_there (λ k. k < number (first / 512)) (λ v l. too_low v l (dec_lt v first)) (take i parts)
        (node_first whole is_in (take i parts) (drop i parts) apart)
        (node_first IsSlot (IsSlotOf leaves) (flatten (slots_shown slots (take i parts))) (flatten (slots_shown slots (drop i parts))) named_apart) begins.1))
        ∙ sym (there-append (take i parts) (drop i parts)) ∙ ap there (take-append-drop i parts)

  -- what holds of the parts from here on, where `list` is listed of what a node has, `to`
  pub record IsListed (list to : Map ℕ Entry) (parts : Map ℕ P) : Type 0 where
    pub kept : IsNode whole is_in parts
    pub named : AreBlocks leaves (flatten (slots_shown slots parts))
    pub left : list ++ there parts ≡ to

  -- the first of them is the part of this round
  pub first_listed : (list to : Map ℕ Entry) (xs : Map ℕ P) (i : ℕ) (e : ℕ × P) → i < length xs → e ≡ get_or xs i e → IsListed list to (drop i xs) → IsListed list to (e ∷ drop (i + 1) xs)
  first_listed list to xs i e inside is = subst (IsListed list to) (drop_more xs i e inside ∙ ap (λ d. d ∷ drop (i + 1) xs) (sym is))

  module _ (e : ℕ × P) (ps : Map ℕ P) (is : IsNode whole is_in (e ∷ ps)) (named : AreBlocks leaves (flatten (slots_shown slots (e ∷ ps)))) where
    -- the slots of a part name leaves, and those of the parts after it
    pub part_named : AreBlocks leaves (slots e.1)
    part_named = node_first IsSlot (IsSlotOf leaves) (slots e.1) (flatten (slots_shown slots ps)) named

    pub later_named : AreBlocks leaves (flatten (slots_shown slots ps))
    later_named = node_second IsSlot (IsSlotOf leaves) (slots e.1) (flatten (slots_shown slots ps)) named

    module _ (list to : Map ℕ Entry) (before : list ++ there (e ∷ ps) ≡ to) where
      -- what the part has is appended
      pub list-step : (list ++ within first last (entries_by leaves (slots e.1))) ++ there ps ≡ to
      list-step =
          append_assoc list (within first last (entries_by leaves (slots e.1))) (there ps)
          ∙ ap (λ m. list ++ m) (sym (ap (within first last) (joined-append (slot_entries leaves) (slots e.1) (flatten (slots_shown slots ps)))
          ∙ filter-append (λ e. range_contains nat_cmp (Included first) (Included last) e.0) (entries_by leaves (slots e.1)) (entries_by leaves (flatten (slots_shown slots ps)))))
          ∙ before

      -- the part and those after it have too high numbers
      pub list-end : number (last / 512) < e.0 → list ≡ to
      list-end l =
          let later = all_weaker (λ k. nat_cmp e.0 k ≡ Less) (λ k. number (last / 512) < k) (λ k less. let up : e.0 < k = ranked e.0 k Less (sym less) in omega (arith, l, up)) (keys_of ps) (keys_later e ps is.0) in
          sym (append-nil list)
          ∙ ap (λ m. list ++ m) (sym (none_there (λ k. number (last / 512) < k) (λ v l. too_high v l (dec_lt last v)) (e ∷ ps) is named (l, later)))
          ∙ before

-- a leaf has the entries of the block whose slot names it
pub of_cell : (leaves : List Places) (slot : Slot) (i block : ℕ) (d : Places) → slot ≡ Leaf i → IsOf leaves slot block → leaf_entries (get_or leaves i d) ≡ slot_entries leaves slot ++ []
of_cell leaves slot i block d is of =
    sym (append-nil (slot_entries leaves slot) ∙ ap (slot_entries leaves) is ∙ ap entries_there (leaf_found leaves i block d (subst (λ s. IsOf leaves s block) is of)))

-- no page number is greater than the last of 64 bits
beyond_all : (leaves : List Places) (index : Map ℕ Slot) → AreBlocks leaves index → (q : ℕ) → 2 ^ 64 ≤ q → (o : Option Slot) → get nat_cmp index (q / 512) ≡ o → get nat_cmp (entries_by leaves index) q ≡ None
beyond_all leaves index is q high None o = blocks-none leaves index is q o
beyond_all leaves index is q high (Some slot) o = let low = (blocks-found leaves index is (q / 512) slot o).0 in absurd (omega (arith, low, high))

pub list-all : (leaves : List Places) (index : Map ℕ Slot) → AreBlocks leaves index → (last : ℕ) → last + 1 ≡ 2 ^ 64 → within 0 last (entries_by leaves index) ≡ entries_by leaves index
list-all leaves index is last e =
    within_all last (entries_by leaves index) (blocks-ordered leaves index is) 0 (λ k l. absurd (omega (arith, l)))
    (λ k l. beyond_all leaves index is k (omega (arith, l, e)) (get nat_cmp index (k / 512)) refl)
