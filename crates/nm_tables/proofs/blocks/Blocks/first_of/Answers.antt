use Rattle.std.proofs.Common.{◌≡◌, ℕ, zero, suc, ◌<◌, ◌≤◌, ◌≢◌, List, [], ◌∷◌, length, get_or, refl, sym, ap, ◌∙◌, subst, arith}
use Rattle.std.specs.Prelude.{Some, None, IfSome, IfNone, slice_get}
use Rattle.std.specs.Ordering.{nat_cmp}
use Rattle.std.proofs.lemmas.Grind.{common_steps}
use Rattle.std.proofs.lemmas.Option.{slice_get_read}
use Rattle.nm_types.specs.Map.{get}
use Rattle.nm_types.specs.declared.entry.Entry.{Entry}
use Rattle.nm_tables.specs.declared.places.Places.{Places}
use Rattle.nm_tables.specs.declared.slot.Slot.{Slot}
use Rattle.nm_tables.specs.declared.slot.Slot.TheVariants.{Leaf}
use Rattle.nm_tables.specs.views.Blocks.{entries_there, slot_entries, IsLeafOf, IsOf}
use Rattle.nm_tables.specs.views.Leaves.{leaf_entries}
use Rattle.nm_tables.proofs.Numbers.{is_below, is_not_below}
use Rattle.nm_tables.proofs.blocks.Blocks.first_of.Goals as goal

there : (leaves : List Places) (i b : ℕ) → IsLeafOf (slice_get leaves i) b → i < length leaves
there [] i b h = absurd h
there (x ∷ xs) zero b h = omega arith
there (x ∷ xs) (suc i) b h = let lt = there xs i b h in omega (arith, lt)

leaf_there : (leaves : List Places) (slot : Slot) (i b : ℕ) (leaf : Places) → slot ≡ Leaf i → IsOf leaves slot b → leaf ≡ get_or leaves i leaf → slice_get leaves i ≡ Some leaf
leaf_there leaves slot i b leaf is of at = slice_get_read leaves (length leaves) i leaf refl (there leaves i b (subst (λ s. IsOf leaves s b) is of)) at

leaf_shown : (leaves : List Places) (slot : Slot) (i b : ℕ) (leaf : Places) → slot ≡ Leaf i → IsOf leaves slot b → leaf ≡ get_or leaves i leaf → slot_entries leaves slot ≡ leaf_entries leaf
leaf_shown leaves slot i b leaf is of at = ap (slot_entries leaves) is ∙ ap entries_there (leaf_there leaves slot i b leaf is of at)

lone_same : (v : ℕ) (entry : Entry) → get nat_cmp ((v, entry) ∷ []) v ≡ Some entry
lone_same v entry = grind (arith, common_steps)

lone_other : (own v : ℕ) (entry : Entry) → v ≢ own → get nat_cmp ((own, entry) ∷ []) v ≡ None
lone_other own v entry ne = grind (arith, common_steps)

pub index-requires : goal.index-requires
index-requires g c =
    let leaves = c.args.self.now.leaves.items in
    omega (arith, there leaves c.in-Leaf.number c.requires.0 (subst (λ s. IsOf leaves s c.requires.0) c.in-Leaf.is c.requires.1.1))

pub first_in-requires : goal.first_in-requires
first_in-requires g c =
    let leaves = c.args.self.now.leaves.items in
    let at = leaf_there leaves c.args.slot c.in-Leaf.number c.requires.0 c.index.result.now c.in-Leaf.is c.requires.1.1 c.index.ensures in
    let own : c.index.result.now.block ≡ c.requires.0 = subst (λ o. IsLeafOf o c.requires.0) at (subst (λ s. IsOf leaves s c.requires.0) c.in-Leaf.is c.requires.1.1) in
    omega (arith, own, c.requires.1.0)

pub returns-then-lt-clause-none : goal.returns-then-lt-clause-none
returns-then-lt-clause-none g c = λ v le.
    ap (λ s. get nat_cmp (slot_entries c.args.self.now.leaves.items s) v) c.in-Lone.is
    ∙ lone_other c.in-Lone.own v c.in-Lone.entry (λ q. omega (arith, is_below c.in-Lone.own c.args.at c.lt.result c.lt.ensures c.if-lt.true))

pub returns-else-lt-clause-some : goal.returns-else-lt-clause-some
returns-else-lt-clause-some g c = (
  is_not_below c.in-Lone.own c.args.at c.lt.result c.lt.ensures c.if-lt.false,
  ap (λ s. get nat_cmp (slot_entries c.args.self.now.leaves.items s) c.in-Lone.own) c.in-Lone.is ∙ lone_same c.in-Lone.own c.in-Lone.entry,
)

pub returns-else-lt-clause-first : goal.returns-else-lt-clause-first
returns-else-lt-clause-first g c = λ v le lt.
    ap (λ s. get nat_cmp (slot_entries c.args.self.now.leaves.items s) v) c.in-Lone.is ∙ lone_other c.in-Lone.own v c.in-Lone.entry (λ q. omega arith)

pub returns-in-Leaf-clause-some : goal.returns-in-Leaf-clause-some
returns-in-Leaf-clause-some g c =
    let shown = leaf_shown c.args.self.now.leaves.items c.args.slot c.in-Leaf.number c.requires.0 c.index.result.now c.in-Leaf.is c.requires.1.1 c.index.ensures in
    subst (λ m. IfSome c.first_in.result (λ e. (c.args.at ≤ e.0) × (get nat_cmp m e.0 ≡ Some e.1))) (sym shown) c.first_in.ensures.some

pub returns-in-Leaf-clause-first : goal.returns-in-Leaf-clause-first
returns-in-Leaf-clause-first g c =
    let shown = leaf_shown c.args.self.now.leaves.items c.args.slot c.in-Leaf.number c.requires.0 c.index.result.now c.in-Leaf.is c.requires.1.1 c.index.ensures in
    subst (λ m. IfSome c.first_in.result (λ e. (v : ℕ) → c.args.at ≤ v → v < e.0 → get nat_cmp m v ≡ None)) (sym shown) c.first_in.ensures.first

pub returns-in-Leaf-clause-none : goal.returns-in-Leaf-clause-none
returns-in-Leaf-clause-none g c =
    let shown = leaf_shown c.args.self.now.leaves.items c.args.slot c.in-Leaf.number c.requires.0 c.index.result.now c.in-Leaf.is c.requires.1.1 c.index.ensures in
    subst (λ m. IfNone c.first_in.result ((v : ℕ) → c.args.at ≤ v → get nat_cmp m v ≡ None)) (sym shown) c.first_in.ensures.none
