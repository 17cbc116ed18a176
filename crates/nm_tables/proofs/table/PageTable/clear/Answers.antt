use Rattle.nm_tables.proofs.Slots.{ordered_by}
use Rattle.nm_tables.proofs.table.PageTable.clear.Goals as goal

pub returns-clause-ordered : goal.returns-clause-ordered
returns-clause-ordered g c = ordered_by c.self.inside.blocks c.args.self.now c.self.view_is c.self.invariant
