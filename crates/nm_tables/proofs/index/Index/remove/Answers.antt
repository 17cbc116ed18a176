use Rattle.nm_tables.proofs.Trees.{ordered_by}
use Rattle.nm_tables.proofs.index.Index.remove.Goals as goal

pub returns-then-remove-clause-ordered : goal.returns-then-remove-clause-ordered
returns-then-remove-clause-ordered g c = ordered_by c.self.inside.root c.args.self.now c.self.view_is c.self.invariant

pub returns-else-remove-clause-ordered : goal.returns-else-remove-clause-ordered
returns-else-remove-clause-ordered g c = ordered_by c.self.inside.root c.args.self.now c.self.view_is c.self.invariant
