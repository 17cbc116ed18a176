use Rattle.std.proofs.Common.{sym, ◌∙◌}
use Rattle.nm_tables.proofs.Nodes as node
use Rattle.nm_tables.proofs.Parts.{part_at, absent_at}
use Rattle.nm_tables.proofs.node.NodeSubtree.get.Goals as goal

pub returns-in-Ok : goal.returns-in-Ok
returns-in-Ok g c =
    let parts = c.args.self.now.parts.items in
    let part = part_at parts c.as_slice.result.now (g.T.Subtree.number c.args.block) c.number_of.result c.in-Ok.place c.as_slice.ensures.value c.number_of.ensures c.index.result.now c.requires.kept.0.0 c.in-Ok.ensures.found c.index.ensures in
    c.get.ensures ∙ sym (node.node-get g.T.Subtree.slots g.T.Subtree.number g.T.Subtree.whole g.T.Subtree.is_in g.met.T.Subtree.parted g.met.T.Subtree.upwards parts c.requires.kept.0 c.args.block c.index.result.now.1 part.found)

pub returns-in-Err : goal.returns-in-Err
returns-in-Err g c =
    let parts = c.args.self.now.parts.items in
    let none = absent_at parts c.as_slice.result.now (g.T.Subtree.number c.args.block) c.number_of.result c.in-Err.field-0 c.as_slice.ensures.value c.number_of.ensures c.in-Err.ensures.fits in
    sym (node.node-get_none g.T.Subtree.slots g.T.Subtree.number g.T.Subtree.whole g.T.Subtree.is_in g.met.T.Subtree.parted g.met.T.Subtree.upwards parts c.requires.kept.0 c.args.block none)
