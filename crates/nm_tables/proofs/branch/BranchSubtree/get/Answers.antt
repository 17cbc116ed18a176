use Rattle.std.proofs.Common.{sym, ap, ◌∙◌}
use Rattle.nm_tables.specs.views.Branches.{parts_of}
use Rattle.nm_tables.proofs.Nodes as node
use Rattle.nm_tables.proofs.Branches.{absent_beside}
use Rattle.nm_tables.proofs.branch.BranchSubtree.get.Goals as goal

pub returns-else-number-number_of : goal.returns-else-number-number_of
returns-else-number-number_of g c =
    let parts = parts_of c.args.self.now in
    let none = absent_beside parts c.in-One.number (g.T.Subtree.number c.args.block) c.in-One.part (ap parts_of c.in-One.is) (λ e. c.if-number-number_of.false (e ∙ sym c.number_of.ensures)) in
    sym (node.node-get_none g.T.Subtree.slots g.T.Subtree.number g.T.Subtree.whole g.T.Subtree.is_in g.met.T.Subtree.parted g.met.T.Subtree.upwards parts c.requires.kept.0 c.args.block none)
