use Rattle.std.proofs.Common.{◌≡◌, ◌/◌, refl, sym, ap, subst, ◌∙◌, arith, rules}
use Rattle.std.specs.Prelude.{Some}
use Rattle.std.specs.Ordering.{nat_cmp}
use Rattle.nm_types.specs.Map.{get, replace}
use Rattle.nm_tables.specs.views.Blocks.{AreBlocks, entries_by, without_leaf, EachLeafIsNamed, EachHasEntries}
use Rattle.nm_tables.specs.declared.slot.Slot.TheVariants.{Lone}
use Rattle.nm_tables.proofs.Slots.{blocks-found, blocks-kept, blocks-set, lacking-replace, lone_set}
use Rattle.nm_tables.proofs.Kept.{lone_named, lone_has}
use Rattle.nm_tables.proofs.blocks.Blocks.put.Goals as goal

pub returns-then-eq-clause-entries : goal.returns-then-eq-clause-entries
returns-then-eq-clause-entries g c =
    let b = c.args.self.now in
    let new = Lone c.args.vpn c.args.entry in
    let same : c.args.vpn ≡ c.in-Lone.own = search rules in
    ap (entries_by b.leaves.items) (c.replace.ensures.slot ∙ ap (λ k. replace nat_cmp b.index k new) c.block_of.ensures.number)
    ∙ blocks-set b.leaves.items b.index c.requires.kept.0 c.args.vpn (Lone c.in-Lone.own c.in-Lone.first) new c.args.entry (c.requires.there ∙ ap Some c.in-Lone.is)
    (lone_set c.args.vpn c.in-Lone.own c.in-Lone.first c.args.entry same)

pub returns-then-eq-clause-kept : goal.returns-then-eq-clause-kept
returns-then-eq-clause-kept g c =
    let b = c.args.self.now in
    let new = Lone c.args.vpn c.args.entry in
    let old = Lone c.in-Lone.own c.in-Lone.first in
    let at : get nat_cmp b.index (c.args.vpn / 512) ≡ Some old = c.requires.there ∙ ap Some c.in-Lone.is in
    let index_now : c.replace.new.self ≡ replace nat_cmp b.index (c.args.vpn / 512) new = c.replace.ensures.slot ∙ ap (λ k. replace nat_cmp b.index k new) c.block_of.ensures.number in
    let are = blocks-kept b.leaves.items b.index c.requires.kept.0 (c.args.vpn / 512) new ((blocks-found b.leaves.items b.index c.requires.kept.0 (c.args.vpn / 512) old at).0, refl) in
    let counted = lacking-replace b.index (c.args.vpn / 512) old new at in
    let after : without_leaf c.replace.new.self ≡ without_leaf (replace nat_cmp b.index (c.args.vpn / 512) new) = ap without_leaf index_now in
    let before = c.requires.kept.1 in (
      subst (AreBlocks b.leaves.items) (sym index_now) are,
      omega (arith, counted, after, before),
      c.requires.kept.2,
      subst (EachLeafIsNamed b.leaves.items) (sym index_now) (lone_named b.leaves.items b.index c.requires.kept.3 c.requires.kept.4 (c.args.vpn / 512) c.in-Lone.own c.in-Lone.first at new),
      subst (EachHasEntries b.leaves.items) (sym index_now) (lone_has b.leaves.items b.index c.requires.kept.3 c.requires.kept.4 (c.args.vpn / 512) c.in-Lone.own c.in-Lone.first at c.args.vpn c.args.entry),
    )
