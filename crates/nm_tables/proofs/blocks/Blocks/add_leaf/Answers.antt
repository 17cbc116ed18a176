use Rattle.std.proofs.Common.{◌≡◌, ◌/◌, [], ◌∷◌, ◌++◌, length, sym, ap, ◌∙◌, arith}
use Rattle.std.specs.Ordering.{nat_cmp}
use Rattle.nm_types.specs.Map.{set, replace}
use Rattle.nm_tables.specs.views.Leaves.{leaf_entries}
use Rattle.nm_tables.specs.views.Blocks.{AreBlocks, entries_by, without_leaf, EachLeafIsNamed, EachHasEntries}
use Rattle.nm_tables.specs.declared.slot.Slot.TheVariants.{Lone, Leaf}
use Rattle.nm_tables.proofs.Leaves.{none_in}
use Rattle.nm_tables.proofs.Slots.{blocks-found, second-kept, second-set, lacking-replace, one_lacks}
use Rattle.nm_tables.proofs.Changed.{set_some}
use Rattle.nm_tables.proofs.Kept.{carried, second_named, second_has}
use Rattle.nm_tables.proofs.blocks.Blocks.add_leaf.Given.{Over}
use Rattle.nm_tables.proofs.blocks.Blocks.add_leaf.Goals.{After-replace}
use Rattle.nm_tables.proofs.blocks.Blocks.add_leaf.Goals as goal

pub set_in-requires : goal.set_in-requires
set_in-requires g c =
    let b = c.args.self.now in
    c.new-leaf.ensures.block ∙ c.block_of-block.ensures.number ∙ sym (blocks-found b.leaves.items b.index c.requires.kept.0 (c.args.vpn / 512) (Lone c.args.own c.args.first) c.requires.there).1

pub push_reserved-requires : goal.push_reserved-requires
push_reserved-requires g c =
    let b = c.args.self.now in
    let len = b.leaves.ok.0 in
    let lacking = one_lacks b.index (c.args.vpn / 512) c.args.own c.args.first c.requires.there in
    let counted = c.requires.kept.1 in
    let room = c.requires.kept.2 in
    omega (arith, len, lacking, counted, room)

pub overflow_sub-self : goal.overflow_sub-self
overflow_sub-self g c =
    let lacking = one_lacks c.args.self.now.index (c.args.vpn / 512) c.args.own c.args.first c.requires.there in
    let counted = c.requires.kept.1 in
    omega (arith, lacking, counted)

-- the leaf of both entries is the block's, and the index names it
its_leaf : (g : Over) (c : After-replace g)
    → record { index : c.replace.new.self ≡ replace nat_cmp c.args.self.now.index (c.args.vpn / 512) (Leaf (length c.args.self.now.leaves.items)); block : c.set_in-2.new.leaf.block ≡ c.args.vpn / 512 }
its_leaf g c =
    let b = c.args.self.now in
    record {
      index = c.replace.ensures.slot ∙ ap (λ k. replace nat_cmp b.index k (Leaf c.len-number.result)) c.block_of-block.ensures.number
          ∙ ap (λ n. replace nat_cmp b.index (c.args.vpn / 512) (Leaf n)) (c.len-number.ensures ∙ b.leaves.ok.0);
      block = c.set_in-2.ensures.block ∙ c.set_in.ensures.block ∙ c.new-leaf.ensures.block ∙ c.block_of-block.ensures.number;
    }

pub returns-clause-entries : goal.returns-clause-entries
returns-clause-entries g c =
    let b = c.args.self.now in
    let q = c.set_in-2.new.leaf in
    let made = its_leaf g (goal.at.returns-clause-entries g c).After-replace in
    let both : leaf_entries q ≡ set nat_cmp ((c.args.own, c.args.first) ∷ []) c.args.vpn c.args.entry =
    c.set_in-2.ensures.entries ∙ ap (λ m. set nat_cmp m c.args.vpn c.args.entry) (c.set_in.ensures.entries ∙ ap (λ m. set nat_cmp m c.args.own c.args.first) (none_in c.new-leaf.result c.new-leaf.ensures.absent)) in
    ap (λ leaves. entries_by leaves c.replace.new.self) c.push_reserved.ensures.items ∙ ap (entries_by (b.leaves.items ++ q ∷ [])) made.index
    ∙ second-set b.leaves.items b.index c.requires.kept.0 c.args.vpn c.args.own c.args.first c.args.entry q c.requires.there made.block both

pub returns-clause-kept : goal.returns-clause-kept
returns-clause-kept g c =
    let b = c.args.self.now in
    let q = c.set_in-2.new.leaf in
    let made = its_leaf g (goal.at.returns-clause-kept g c).After-replace in
    let items = c.push_reserved.ensures.items in
    let are = second-kept b.leaves.items b.index c.requires.kept.0 c.args.vpn c.args.own c.args.first c.args.entry q c.requires.there made.block in
    let less = lacking-replace b.index (c.args.vpn / 512) (Lone c.args.own c.args.first) (Leaf (length b.leaves.items)) c.requires.there in
    let after : without_leaf c.replace.new.self ≡ without_leaf (replace nat_cmp b.index (c.args.vpn / 512) (Leaf (length b.leaves.items))) = ap without_leaf made.index in
    let counted = c.requires.kept.1 in
    let room = c.requires.kept.2 in
    let old_len = b.leaves.ok.0 in
    let new_len = c.push_reserved.new.self.ok.0 in
    let more = c.push_reserved.ensures.len in
    let same = c.push_reserved.ensures.capacity in (
      carried AreBlocks items made.index are,
      omega (arith, less, after, counted),
      omega (arith, less, counted, room, old_len, new_len, more, same),
      carried EachLeafIsNamed items made.index (second_named b.leaves.items b.index c.requires.kept.3 c.requires.kept.4 (c.args.vpn / 512) c.args.own c.args.first c.requires.there q made.block),
      carried EachHasEntries items made.index
          (second_has b.leaves.items b.index c.requires.kept.3 c.requires.kept.4 (c.args.vpn / 512) c.args.own c.args.first c.requires.there q c.requires.kept.0 (λ none. set_some (leaf_entries c.set_in.new.leaf) c.args.vpn c.args.entry (sym c.set_in-2.ensures.entries ∙ none))),
    )
