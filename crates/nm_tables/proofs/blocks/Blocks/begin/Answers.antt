use Rattle.std.proofs.Common.{◌≡◌, ◌/◌, ◌<◌, ◌^◌, refl, sym, ap, subst, ◌∙◌, arith}
use Rattle.std.specs.Ordering.{nat_cmp}
use Rattle.nm_types.specs.Map.{set}
use Rattle.nm_tables.specs.views.Blocks.{AreBlocks, entries_by, without_leaf, EachLeafIsNamed, EachHasEntries}
use Rattle.nm_tables.specs.declared.slot.Slot.TheVariants.{Lone}
use Rattle.nm_tables.proofs.Slots.{blocks-new, blocks-more, lacking-set}
use Rattle.nm_tables.proofs.Kept.{new_named, new_has}
use Rattle.nm_tables.proofs.blocks.Blocks.begin.Goals as goal

pub returns-clause-ok : goal.returns-clause-ok
returns-clause-ok g c =
    let b = c.args.self.now in
    let index_now : c.set.new.self ≡ set nat_cmp b.index (c.args.vpn / 512) (Lone c.args.vpn c.args.entry) =
    c.in_ok-set.ensures.ok ∙ ap (λ k. set nat_cmp b.index k (Lone c.args.vpn c.args.entry)) c.block_of.ensures.number in
    ap (λ leaves. entries_by leaves c.set.new.self) c.reserve.ensures.items ∙ ap (entries_by b.leaves.items) index_now
    ∙ blocks-new b.leaves.items b.index c.requires.kept.0 c.args.vpn c.args.entry c.requires.empty

pub returns-clause-kept : goal.returns-clause-kept
returns-clause-kept g c =
    let b = c.args.self.now in
    let index_now : c.set.new.self ≡ set nat_cmp b.index (c.args.vpn / 512) (Lone c.args.vpn c.args.entry) =
    c.in_ok-set.ensures.ok ∙ ap (λ k. set nat_cmp b.index k (Lone c.args.vpn c.args.entry)) c.block_of.ensures.number in
    let new = Lone c.args.vpn c.args.entry in
    let low : c.args.vpn / 512 < 2 ^ 55 = subst (λ n. n < 2 ^ 55) c.block_of.ensures.number c.block_of.ensures.fits in
    let are = blocks-more b.leaves.items b.index c.requires.kept.0 (c.args.vpn / 512) (Lone c.args.vpn c.args.entry) (low, refl) in
    let more = lacking-set b.index (c.args.vpn / 512) (Lone c.args.vpn c.args.entry) c.requires.empty in
    let after : without_leaf c.set.new.self ≡ without_leaf (set nat_cmp b.index (c.args.vpn / 512) (Lone c.args.vpn c.args.entry)) = ap without_leaf index_now in
    let counted = c.requires.kept.1 in
    let room = c.in_ok-reserve.ensures.ok in
    let len = c.reserve.new.self.ok.0 in (
      subst (λ leaves. AreBlocks leaves c.set.new.self) (sym c.reserve.ensures.items) (subst (AreBlocks b.leaves.items) (sym index_now) are),
      omega (arith, more, after, counted),
      omega (arith, room, len),
      subst (λ leaves. EachLeafIsNamed leaves c.set.new.self) (sym c.reserve.ensures.items) (subst (EachLeafIsNamed b.leaves.items) (sym index_now) (new_named b.leaves.items b.index c.requires.kept.3 c.requires.kept.4 (c.args.vpn / 512) new c.requires.empty)),
      subst (λ leaves. EachHasEntries leaves c.set.new.self) (sym c.reserve.ensures.items) (subst (EachHasEntries b.leaves.items) (sym index_now) (new_has b.leaves.items b.index c.requires.kept.3 c.requires.kept.4 (c.args.vpn / 512) c.args.vpn c.args.entry)),
    )
