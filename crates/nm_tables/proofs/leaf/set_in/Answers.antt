use Rattle.std.proofs.Common.{sym, ap, ◌∙◌}
use Rattle.nm_tables.specs.views.Leaves.{stands_at}
use Rattle.nm_tables.proofs.Leaves.{leaf-set}
use Rattle.nm_tables.proofs.leaf.set_in.Goals as goal

pub returns-clause-entries : goal.returns-clause-entries
returns-clause-entries c =
    let q = c.put.new.self in
    let at = c.place_of.ensures in
    leaf-set c.args.leaf.now q c.args.vpn c.requires c.put.ensures.block (λ i apart. c.put.ensures.others i (λ z. apart (z ∙ at))) c.args.entry
    (ap (stands_at q) (sym at) ∙ c.put.ensures.here)
