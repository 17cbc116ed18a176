use Rattle.std.proofs.Common.{◌≡◌, ◌/◌, sym, ap, ◌∙◌}
use Rattle.std.specs.Prelude.{Some}
use Rattle.std.specs.Ordering.{nat_cmp}
use Rattle.nm_types.specs.Map.{get}
use Rattle.nm_tables.specs.views.Blocks.{entries_there}
use Rattle.nm_tables.specs.declared.slot.Slot.TheVariants.{Leaf}
use Rattle.nm_tables.proofs.Slots.{blocks-get, blocks-found, read_leaf, read_block}
use Rattle.nm_tables.proofs.blocks.Blocks.get.Goals as goal

pub entry_in-requires : goal.entry_in-requires
entry_in-requires g c =
    let b = c.args.self.now in
    let at : get nat_cmp b.index (c.args.vpn / 512) ≡ Some (Leaf c.in-Some.number) = ap (get nat_cmp b.index) (sym c.block_of.ensures.number) ∙ c.in-Some.ensures in
    read_block b.leaves.items c.in-Some.number (c.args.vpn / 512) c.index.result.now (blocks-found b.leaves.items b.index c.requires.0 (c.args.vpn / 512) (Leaf c.in-Some.number) at).1 c.index.ensures

pub returns-in-Some : goal.returns-in-Some
returns-in-Some g c =
    let b = c.args.self.now in
    let i = c.in-Some.number in
    let at : get nat_cmp b.index (c.args.vpn / 512) ≡ Some (Leaf i) = ap (get nat_cmp b.index) (sym c.block_of.ensures.number) ∙ c.in-Some.ensures in
    let read = read_leaf b.leaves.items i (c.args.vpn / 512) c.index.result.now (blocks-found b.leaves.items b.index c.requires.0 (c.args.vpn / 512) (Leaf i) at).1 c.index.ensures in
    c.entry_in.ensures ∙ sym (blocks-get b.leaves.items b.index c.requires.0 c.args.vpn (Leaf i) at ∙ ap (λ o. get nat_cmp (entries_there o) c.args.vpn) read)
