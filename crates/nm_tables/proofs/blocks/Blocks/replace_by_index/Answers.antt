use Rattle.std.proofs.Common.{◌≡◌, ◌/◌, sym, ap, subst, ◌∙◌}
use Rattle.std.specs.Prelude.{None, IsSome}
use Rattle.std.specs.Ordering.{nat_cmp}
use Rattle.std.specs.Cmp.{nat_cmp_total}
use Rattle.std.proofs.lemmas.Map.Lookups.{exact_unsigned}
use Rattle.nm_types.specs.Map.{get}
use Rattle.nm_types.proofs.Cases.{none_is_not}
use Rattle.nm_types.proofs.Maps.{replace_is_set}
use Rattle.nm_tables.specs.views.Blocks.{block_entries}
use Rattle.nm_types.specs.declared.entry.Entry.{Entry}
use Rattle.nm_tables.proofs.Slots.{blocks-none, blocks-ordered}
use Rattle.nm_tables.proofs.blocks.Blocks.replace_by_index.Goals as goal

pub unreachable-requires : goal.unreachable-requires
unreachable-requires g c =
    let b = c.args.self.now in
    let none : get nat_cmp b.index (c.args.vpn / 512) ≡ None = ap (get nat_cmp b.index) (sym c.block_of.ensures.number) ∙ sym c.in_default.ensures.slot in
    none_is_not Entry (subst IsSome (blocks-none b.leaves.items b.index c.requires.kept.0 c.args.vpn none) c.requires.there)

pub returns-clause-entries : goal.returns-clause-entries
returns-clause-entries g c =
    let b = c.args.self.now in
    c.put.ensures.entries ∙ sym (replace_is_set nat_cmp_total exact_unsigned (block_entries b) c.args.vpn c.args.entry (blocks-ordered b.leaves.items b.index c.requires.kept.0) c.requires.there)
