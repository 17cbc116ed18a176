use Rattle.std.proofs.Common.{◌≡◌, ◌+◌, ◌/◌, ◌<◌, ◌≤◌, sym, subst, ◌∙◌, length-set}
use Rattle.std.specs.Prelude.{slice_get}
use Rattle.nm_tables.specs.declared.slot.Slot.TheVariants.{Leaf}
use Rattle.nm_tables.proofs.Slots.{blocks-found, within, read_leaf, read_block, written-set, written-kept}
use Rattle.nm_tables.specs.views.Blocks.{IsLeafOf}
use Rattle.nm_tables.specs.views.Leaves.{leaf_entries}
use Rattle.nm_tables.proofs.Changed.{set_some}
use Rattle.nm_tables.proofs.Kept.{written_named, written_has}
use Rattle.nm_tables.proofs.blocks.Blocks.put_in_leaf.Given.{Over}
use Rattle.nm_tables.proofs.blocks.Blocks.put_in_leaf.Goals.{Start, After-index_mut}
use Rattle.nm_tables.proofs.blocks.Blocks.put_in_leaf.Goals as goal

-- the leaf is the block's
of_block : (g : Over) (c : Start g) → IsLeafOf (slice_get c.args.self.now.leaves.items c.args.number) (c.args.vpn / 512)
of_block g c = (blocks-found c.args.self.now.leaves.items c.args.self.now.index c.requires.kept.0 (c.args.vpn / 512) (Leaf c.args.number) c.requires.there).1

its_block : (g : Over) (c : After-index_mut g) → IsLeafOf (slice_get c.args.self.now.leaves.items c.args.number) (c.args.vpn / 512) → c.index_mut.result.now.block ≡ c.args.vpn / 512
its_block g c of = read_block c.args.self.now.leaves.items c.args.number (c.args.vpn / 512) c.index_mut.result.now of c.index_mut.ensures.value

pub index_mut-requires : goal.index_mut-requires
index_mut-requires g c =
    let b = c.args.self.now in
    subst (λ n. c.args.number < n) (sym b.leaves.ok.0) (within b.leaves.items c.args.number (c.args.vpn / 512) (of_block g (goal.at.index_mut-requires g c).Start))

pub set_in-requires : goal.set_in-requires
set_in-requires g c = let at = goal.at.set_in-requires g c in its_block g at.After-index_mut (of_block g at.Start)

pub returns-clause-entries : goal.returns-clause-entries
returns-clause-entries g c =
    let b = c.args.self.now in
    let at = goal.at.returns-clause-entries g c in
    let of = of_block g at.Start in
    written-set b.leaves.items b.index c.requires.kept.0 c.args.vpn c.args.number c.set_in.new.leaf c.requires.there (c.set_in.ensures.block ∙ its_block g at.After-index_mut of) c.index_mut.result.now c.args.entry
    (read_leaf b.leaves.items c.args.number (c.args.vpn / 512) c.index_mut.result.now of c.index_mut.ensures.value) c.set_in.ensures.entries

pub returns-clause-kept : goal.returns-clause-kept
returns-clause-kept g c =
    let b = c.args.self.now in
    let i = c.args.number in
    let at = goal.at.returns-clause-kept g c in
    let block = c.set_in.ensures.block ∙ its_block g at.After-index_mut (of_block g at.Start) in (
      written-kept b.leaves.items b.index c.requires.kept.0 c.args.vpn i c.set_in.new.leaf c.requires.there block,
      c.requires.kept.1,
      subst (λ n. n + b.without ≤ b.leaves.cap) (sym (length-set b.leaves.items i c.set_in.new.leaf)) c.requires.kept.2,
      written_named b.leaves.items b.index c.requires.kept.3 c.requires.kept.4 c.requires.kept.0 c.args.vpn i c.set_in.new.leaf c.requires.there block,
      written_has b.leaves.items b.index c.requires.kept.3 c.requires.kept.4 c.requires.kept.0 c.args.vpn i c.set_in.new.leaf c.requires.there block (λ none. set_some (leaf_entries c.index_mut.result.now) c.args.vpn c.args.entry (sym c.set_in.ensures.entries ∙ none)),
    )
