use Rattle.std.proofs.Common.{◌∙◌, sym}
use Rattle.std.specs.Cmp.{nat_cmp_total}
use Rattle.std.proofs.lemmas.Map.Lookups.{exact_unsigned}
use Rattle.nm_types.proofs.Maps.{replace_is_set}
use Rattle.nm_tables.specs.views.Blocks.{block_entries}
use Rattle.nm_tables.proofs.Slots.{blocks-ordered}
use Rattle.nm_tables.proofs.blocks.Blocks.replace.Goals as goal

pub returns-in-Some-clause-entries : goal.returns-in-Some-clause-entries
returns-in-Some-clause-entries g c =
    let b = c.args.self.now in
    c.put_in_leaf.ensures.entries ∙ sym (replace_is_set nat_cmp_total exact_unsigned (block_entries b) c.args.vpn c.args.entry (blocks-ordered b.leaves.items b.index c.requires.kept.0) c.requires.there)
