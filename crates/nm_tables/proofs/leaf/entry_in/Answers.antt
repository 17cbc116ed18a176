use Rattle.std.proofs.Common.{sym, ap, ◌∙◌}
use Rattle.nm_tables.specs.views.Leaves.{stands_at}
use Rattle.nm_tables.proofs.Leaves.{leaf-get}
use Rattle.nm_tables.proofs.leaf.entry_in.Goals as goal

pub returns : goal.returns
returns c =
    c.get.ensures ∙ ap (stands_at c.args.leaf.now) c.place_of.ensures ∙ sym (leaf-get c.args.leaf.now c.args.vpn c.requires)
