use Rattle.std.proofs.Common.{sym, ap, ◌∙◌}
use Rattle.nm_tables.specs.views.Leaves.{stands_at}
use Rattle.nm_tables.proofs.Leaves.{leaf-without}
use Rattle.nm_tables.proofs.leaf.clear_in.Goals as goal

pub returns-clause-entries : goal.returns-clause-entries
returns-clause-entries c =
    let q = c.clear.new.self in
    let at = c.place_of.ensures in
    leaf-without c.args.leaf.now q c.args.vpn c.requires c.clear.ensures.block (λ i apart. c.clear.ensures.others i (λ z. apart (z ∙ at)))
    (ap (stands_at q) (sym at) ∙ c.clear.ensures.here)
