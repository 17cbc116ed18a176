use Rattle.std.proofs.Common.{◌≡◌, ◌/◌, ◌<◌, [], sym, ap, subst, ◌∙◌, rules}
use Rattle.std.specs.Prelude.{Some, None}
use Rattle.std.specs.Ordering.{nat_cmp}
use Rattle.nm_types.specs.Map.{get}
use Rattle.nm_tables.specs.views.Blocks.{entries_there}
use Rattle.nm_tables.specs.declared.slot.Slot.TheVariants.{Lone, Leaf}
use Rattle.nm_tables.proofs.Joined.{get-here, get-later}
use Rattle.nm_tables.proofs.Slots.{blocks-get, blocks-none, blocks-found, within, read_leaf, read_block}
use Rattle.nm_tables.proofs.blocks.Blocks.get_by_index.Goals as goal

pub returns-in_err-own : goal.returns-in_err-own
returns-in_err-own g c =
    let b = c.args.self.now in
    let none : get nat_cmp b.index (c.args.vpn / 512) ≡ None = ap (get nat_cmp b.index) (sym c.block_of.ensures.number) ∙ sym c.in_err-own.ensures.slot in
    c.from_residual.ensures ∙ sym (blocks-none b.leaves.items b.index c.requires.0 c.args.vpn none)

pub index-requires : goal.index-requires
index-requires g c =
    let b = c.args.self.now in
    let at : get nat_cmp b.index (c.args.vpn / 512) ≡ Some (Leaf c.in-Leaf.number) = ap (get nat_cmp b.index) (sym c.block_of.ensures.number) ∙ sym c.in_ok-own.ensures.slot ∙ ap Some c.in-Leaf.is in
    subst (λ n. c.in-Leaf.number < n) (sym b.leaves.ok.0)
    (within b.leaves.items c.in-Leaf.number (c.args.vpn / 512) (blocks-found b.leaves.items b.index c.requires.0 (c.args.vpn / 512) (Leaf c.in-Leaf.number) at).1)

pub entry_in-requires : goal.entry_in-requires
entry_in-requires g c =
    let b = c.args.self.now in
    let at : get nat_cmp b.index (c.args.vpn / 512) ≡ Some (Leaf c.in-Leaf.number) = ap (get nat_cmp b.index) (sym c.block_of.ensures.number) ∙ sym c.in_ok-own.ensures.slot ∙ ap Some c.in-Leaf.is in
    read_block b.leaves.items c.in-Leaf.number (c.args.vpn / 512) c.index.result.now (blocks-found b.leaves.items b.index c.requires.0 (c.args.vpn / 512) (Leaf c.in-Leaf.number) at).1 c.index.ensures

pub returns-then-eq : goal.returns-then-eq
returns-then-eq g c =
    let b = c.args.self.now in
    let slot = Lone c.in-Lone.own c.in-Lone.entry in
    let at : get nat_cmp b.index (c.args.vpn / 512) ≡ Some slot = ap (get nat_cmp b.index) (sym c.block_of.ensures.number) ∙ sym c.in_ok-own.ensures.slot ∙ ap Some c.in-Lone.is in
    let same : c.args.vpn ≡ c.in-Lone.own = search rules in
    sym (blocks-get b.leaves.items b.index c.requires.0 c.args.vpn slot at ∙ get-here (c.in-Lone.own, c.in-Lone.entry) [] c.args.vpn same)

pub returns-else-eq : goal.returns-else-eq
returns-else-eq g c =
    let b = c.args.self.now in
    let slot = Lone c.in-Lone.own c.in-Lone.entry in
    let at : get nat_cmp b.index (c.args.vpn / 512) ≡ Some slot = ap (get nat_cmp b.index) (sym c.block_of.ensures.number) ∙ sym c.in_ok-own.ensures.slot ∙ ap Some c.in-Lone.is in
    let apart : c.args.vpn ≡ c.in-Lone.own → ⊥ = search rules in
    sym (blocks-get b.leaves.items b.index c.requires.0 c.args.vpn slot at ∙ get-later (c.in-Lone.own, c.in-Lone.entry) [] c.args.vpn apart)

pub returns-in-Leaf : goal.returns-in-Leaf
returns-in-Leaf g c =
    let b = c.args.self.now in
    let i = c.in-Leaf.number in
    let at : get nat_cmp b.index (c.args.vpn / 512) ≡ Some (Leaf i) = ap (get nat_cmp b.index) (sym c.block_of.ensures.number) ∙ sym c.in_ok-own.ensures.slot ∙ ap Some c.in-Leaf.is in
    let read = read_leaf b.leaves.items i (c.args.vpn / 512) c.index.result.now (blocks-found b.leaves.items b.index c.requires.0 (c.args.vpn / 512) (Leaf i) at).1 c.index.ensures in
    c.entry_in.ensures ∙ sym (blocks-get b.leaves.items b.index c.requires.0 c.args.vpn (Leaf i) at ∙ ap (λ o. get nat_cmp (entries_there o) c.args.vpn) read)
