use Rattle.nm_rmap.proofs.Lone.{lone_ordered}
use Rattle.nm_rmap.proofs.mappings.Mappings.remove.Goals as goal

pub returns-then-eq-clause-ordered : goal.returns-then-eq-clause-ordered
returns-then-eq-clause-ordered g c = lone_ordered c.self.inside.lone c.self.inside.tree.keys c.args.self.now c.in-Some.lone c.self.view_is c.in-Some.is

pub returns-else-eq-clause-ordered : goal.returns-else-eq-clause-ordered
returns-else-eq-clause-ordered g c = lone_ordered c.self.inside.lone c.self.inside.tree.keys c.args.self.now c.in-Some.lone c.self.view_is c.in-Some.is
