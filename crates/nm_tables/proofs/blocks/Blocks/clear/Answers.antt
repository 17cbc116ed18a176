use Rattle.std.proofs.Common.{◌≡◌, [], ◌+◌, ◌/◌, ◌<◌, ◌≤◌, refl, sym, ap, subst, ◌∙◌, arith, rules, length-set}
use Rattle.std.specs.Prelude.{Some, None, IsSome, slice_get, vec_len}
use Rattle.std.specs.Ordering.{nat_cmp}
use Rattle.nm_types.specs.Map.{get, without}
use Rattle.nm_types.proofs.Cases.{some_is}
use Rattle.nm_tables.specs.views.Leaves.{leaf_entries}
use Rattle.nm_tables.specs.views.Blocks.{AreBlocks, entries_by, entries_there, without_leaf, EachLeafIsNamed, EachHasEntries, IsLeafOf}
use Rattle.nm_tables.specs.declared.slot.Slot.TheVariants.{Lone, Leaf}
use Rattle.nm_tables.proofs.Slots.{blocks-found, blocks-gone, blocks-less, blocks-without_nothing, blocks-absent, within, read_leaf, read_block, written-without, written-kept, lacking-without, one_lacks, lone_without, lone_other}
use Rattle.nm_tables.proofs.Kept.{gone_named, gone_has, written_named, written_has}
use Rattle.nm_tables.proofs.blocks.Blocks.clear.Given.{Over}
use Rattle.nm_tables.proofs.blocks.Blocks.clear.Goals.{In-Leaf, After-clear_in}
use Rattle.nm_tables.proofs.blocks.Blocks.clear.Goals as goal

pub returns-in_default-clause-entries : goal.returns-in_default-clause-entries
returns-in_default-clause-entries g c =
    let b = c.args.self.now in
    let none : get nat_cmp b.index (c.args.vpn / 512) ≡ None = ap (get nat_cmp b.index) (sym c.block_of-block.ensures.number) ∙ sym c.in_default.ensures.slot in
    sym (blocks-without_nothing b.leaves.items b.index c.requires.0 c.args.vpn none)

-- the block has a leaf, which is in its place
its_leaf : (g : Over) (c : In-Leaf g)
    → record { at : get nat_cmp c.args.self.now.index (c.args.vpn / 512) ≡ Some (Leaf c.in-Leaf.number); of : IsLeafOf (slice_get c.args.self.now.leaves.items c.in-Leaf.number) (c.args.vpn / 512); inside : c.in-Leaf.number < vec_len c.args.self.now.leaves }
its_leaf g c =
    let b = c.args.self.now in
    let at : get nat_cmp b.index (c.args.vpn / 512) ≡ Some (Leaf c.in-Leaf.number) = ap (get nat_cmp b.index) (sym c.block_of-block.ensures.number) ∙ sym c.in-Some.ensures.slot ∙ ap Some c.in-Leaf.is in
    let of = (blocks-found b.leaves.items b.index c.requires.0 (c.args.vpn / 512) (Leaf c.in-Leaf.number) at).1 in
    record { at = at; of = of; inside = subst (λ n. c.in-Leaf.number < n) (sym b.leaves.ok.0) (within b.leaves.items c.in-Leaf.number (c.args.vpn / 512) of) }

pub index-requires : goal.index-requires
index-requires g c = (its_leaf g (goal.at.index-requires g c).In-Leaf).inside

pub has_no_other-requires : goal.has_no_other-requires
has_no_other-requires g c = read_block c.args.self.now.leaves.items c.in-Leaf.number (c.args.vpn / 512) c.index.result.now (its_leaf g (goal.at.has_no_other-requires g c).In-Leaf).of c.index.ensures

pub remove_leaf-requires-clause-there : goal.remove_leaf-requires-clause-there
remove_leaf-requires-clause-there g c =
    let b = c.args.self.now in
    ap (get nat_cmp b.index) (sym c.block_of-block.ensures.number) ∙ sym c.in-Some.ensures.slot ∙ ap Some c.in-Leaf.is

pub remove_leaf-requires-clause-none : goal.remove_leaf-requires-clause-none
remove_leaf-requires-clause-none g c =
    let b = c.args.self.now in
    let i = c.in-Leaf.number in
    let leaf = its_leaf g (goal.at.remove_leaf-requires-clause-none g c).In-Leaf in
    ap (λ o. without nat_cmp (entries_there o) c.args.vpn) (read_leaf b.leaves.items i (c.args.vpn / 512) c.index.result.now leaf.of c.index.ensures) ∙ c.has_no_other.ensures.none c.if-has_no_other.true

pub index_mut-requires : goal.index_mut-requires
index_mut-requires g c = (its_leaf g (goal.at.index_mut-requires g c).In-Leaf).inside

pub clear_in-requires : goal.clear_in-requires
clear_in-requires g c = read_block c.args.self.now.leaves.items c.in-Leaf.number (c.args.vpn / 512) c.index_mut.result.now (its_leaf g (goal.at.clear_in-requires g c).In-Leaf).of c.index_mut.ensures.value

pub remove-requires : goal.remove-requires
remove-requires g c =
    let b = c.args.self.now in
    subst IsSome c.in-Some.ensures.slot refl

pub overflow_sub-self : goal.overflow_sub-self
overflow_sub-self g c =
    let b = c.args.self.now in
    let slot = Lone c.in-Lone.own c.in-Lone.field-1 in
    let at : get nat_cmp b.index (c.args.vpn / 512) ≡ Some slot = ap (get nat_cmp b.index) (sym c.block_of-block.ensures.number) ∙ sym c.in-Some.ensures.slot ∙ ap Some c.in-Lone.is in
    let lacking = one_lacks b.index (c.args.vpn / 512) c.in-Lone.own c.in-Lone.field-1 at in
    let counted = c.requires.1 in
    omega (arith, lacking, counted)

pub returns-then-eq-clause-entries : goal.returns-then-eq-clause-entries
returns-then-eq-clause-entries g c =
    let b = c.args.self.now in
    let slot = Lone c.in-Lone.own c.in-Lone.field-1 in
    let at : get nat_cmp b.index (c.args.vpn / 512) ≡ Some slot = ap (get nat_cmp b.index) (sym c.block_of-block.ensures.number) ∙ sym c.in-Some.ensures.slot ∙ ap Some c.in-Lone.is in
    let same : c.args.vpn ≡ c.in-Lone.own = search rules in
    ap (entries_by b.leaves.items) (c.remove.ensures.slot ∙ ap (without nat_cmp b.index) c.block_of-block.ensures.number)
    ∙ blocks-gone b.leaves.items b.index c.requires.0 c.args.vpn slot at (lone_without c.args.vpn c.in-Lone.own c.in-Lone.field-1 same)

pub returns-then-eq-clause-kept : goal.returns-then-eq-clause-kept
returns-then-eq-clause-kept g c =
    let b = c.args.self.now in
    let slot = Lone c.in-Lone.own c.in-Lone.field-1 in
    let at : get nat_cmp b.index (c.args.vpn / 512) ≡ Some slot = ap (get nat_cmp b.index) (sym c.block_of-block.ensures.number) ∙ sym c.in-Some.ensures.slot ∙ ap Some c.in-Lone.is in
    let index_now : c.remove.new.self ≡ without nat_cmp b.index (c.args.vpn / 512) = c.remove.ensures.slot ∙ ap (without nat_cmp b.index) c.block_of-block.ensures.number in
    let counted = lacking-without b.index (c.args.vpn / 512) slot at in
    let after : without_leaf c.remove.new.self ≡ without_leaf (without nat_cmp b.index (c.args.vpn / 512)) = ap without_leaf index_now in
    let before = c.requires.1 in
    let room = c.requires.2 in (
      subst (AreBlocks b.leaves.items) (sym index_now) (blocks-less b.leaves.items b.index c.requires.0 (c.args.vpn / 512)),
      omega (arith, counted, after, before),
      omega (arith, room),
      subst (EachLeafIsNamed b.leaves.items) (sym index_now) (gone_named b.leaves.items b.index c.requires.3 c.requires.4 (c.args.vpn / 512) c.in-Lone.own c.in-Lone.field-1 at c.requires.0.0),
      subst (EachHasEntries b.leaves.items) (sym index_now) (gone_has b.leaves.items b.index c.requires.3 c.requires.4 (c.args.vpn / 512) c.in-Lone.own c.in-Lone.field-1 at c.requires.0.0),
    )

pub returns-else-eq-clause-entries : goal.returns-else-eq-clause-entries
returns-else-eq-clause-entries g c =
    let b = c.args.self.now in
    let slot = Lone c.in-Lone.own c.in-Lone.field-1 in
    let at : get nat_cmp b.index (c.args.vpn / 512) ≡ Some slot = ap (get nat_cmp b.index) (sym c.block_of-block.ensures.number) ∙ sym c.in-Some.ensures.slot ∙ ap Some c.in-Lone.is in
    let apart : c.args.vpn ≡ c.in-Lone.own → ⊥ = search rules in
    sym (blocks-absent b.leaves.items b.index c.requires.0 c.args.vpn slot at (lone_other c.args.vpn c.in-Lone.own c.in-Lone.field-1 apart))

-- the leaf that was cleared is still the block's
cleared_block : (g : Over) (c : After-clear_in g) → IsLeafOf (slice_get c.args.self.now.leaves.items c.in-Leaf.number) (c.args.vpn / 512) → c.clear_in.new.leaf.block ≡ c.args.vpn / 512
cleared_block g c of = c.clear_in.ensures.block ∙ read_block c.args.self.now.leaves.items c.in-Leaf.number (c.args.vpn / 512) c.index_mut.result.now of c.index_mut.ensures.value

pub returns-else-has_no_other-clause-entries : goal.returns-else-has_no_other-clause-entries
returns-else-has_no_other-clause-entries g c =
    let b = c.args.self.now in
    let leaf = its_leaf g (goal.at.returns-else-has_no_other-clause-entries g c).In-Leaf in
    let block = cleared_block g (goal.at.returns-else-has_no_other-clause-entries g c).After-clear_in leaf.of in
    written-without b.leaves.items b.index c.requires.0 c.args.vpn c.in-Leaf.number c.clear_in.new.leaf leaf.at block c.index_mut.result.now
    (read_leaf b.leaves.items c.in-Leaf.number (c.args.vpn / 512) c.index_mut.result.now leaf.of c.index_mut.ensures.value) c.clear_in.ensures.entries

pub returns-else-has_no_other-clause-kept : goal.returns-else-has_no_other-clause-kept
returns-else-has_no_other-clause-kept g c =
    let b = c.args.self.now in
    let i = c.in-Leaf.number in
    let leaf = its_leaf g (goal.at.returns-else-has_no_other-clause-kept g c).In-Leaf in
    let block = cleared_block g (goal.at.returns-else-has_no_other-clause-kept g c).After-clear_in leaf.of in
    let read : c.index.result.now ≡ c.index_mut.result.now = some_is (sym (read_leaf b.leaves.items i (c.args.vpn / 512) c.index.result.now leaf.of c.index.ensures) ∙ read_leaf b.leaves.items i (c.args.vpn / 512) c.index_mut.result.now leaf.of c.index_mut.ensures.value) in
    let some = subst (λ p. without nat_cmp (leaf_entries p) c.args.vpn ≡ [] → ⊥) read (c.has_no_other.ensures.some c.if-has_no_other.false) in (
      written-kept b.leaves.items b.index c.requires.0 c.args.vpn i c.clear_in.new.leaf leaf.at block,
      c.requires.1,
      subst (λ n. n + b.without ≤ b.leaves.cap) (sym (length-set b.leaves.items i c.clear_in.new.leaf)) c.requires.2,
      written_named b.leaves.items b.index c.requires.3 c.requires.4 c.requires.0 c.args.vpn i c.clear_in.new.leaf leaf.at block,
      written_has b.leaves.items b.index c.requires.3 c.requires.4 c.requires.0 c.args.vpn i c.clear_in.new.leaf leaf.at block (λ none. some (sym c.clear_in.ensures.entries ∙ none)),
    )
