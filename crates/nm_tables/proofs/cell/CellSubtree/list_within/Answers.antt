use Rattle.std.proofs.Common.{◌≡◌, ◌++◌, subst}
use Rattle.std.specs.Prelude.{OnOk, OnErr}
use Rattle.nm_tables.specs.definitions.Lists.{IsCutShort}
use Rattle.nm_tables.proofs.Within.{within}
use Rattle.nm_tables.proofs.Listed.{of_cell}
use Rattle.nm_tables.proofs.cell.CellSubtree.list_within.Goals as goal

pub returns-in-Leaf-clause-ok : goal.returns-in-Leaf-clause-ok
returns-in-Leaf-clause-ok g c =
    subst (λ m. OnOk c.list_leaf.result (c.list_leaf.new.list.items ≡ c.args.list.now.items ++ within c.args.first c.args.last m))
    (of_cell c.args.leaves.now c.args.self.now.slot c.in-Leaf.number c.args.self.now.block _ c.in-Leaf.is c.requires.blocks.1.0.1.1) c.list_leaf.ensures.ok

pub returns-in-Leaf-clause-short : goal.returns-in-Leaf-clause-short
returns-in-Leaf-clause-short g c =
    subst (λ m. OnErr c.list_leaf.result (IsCutShort c.list_leaf.new.list.items (c.args.list.now.items ++ within c.args.first c.args.last m)))
    (of_cell c.args.leaves.now c.args.self.now.slot c.in-Leaf.number c.args.self.now.block _ c.in-Leaf.is c.requires.blocks.1.0.1.1) c.list_leaf.ensures.short
