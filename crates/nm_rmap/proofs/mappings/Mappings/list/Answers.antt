use Rattle.nm_rmap.proofs.Lone.{lone_ordered}
use Rattle.nm_rmap.proofs.mappings.Mappings.list.Goals as goal

pub returns-in_err-list-in-Some-clause-ordered : goal.returns-in_err-list-in-Some-clause-ordered
returns-in_err-list-in-Some-clause-ordered g c = lone_ordered c.self.inside.lone c.self.inside.tree.keys c.args.self.now c.in-Some.lone c.self.view_is c.in-Some.is

pub returns-in_ok-list-in-Some-clause-ordered : goal.returns-in_ok-list-in-Some-clause-ordered
returns-in_ok-list-in-Some-clause-ordered g c = lone_ordered c.self.inside.lone c.self.inside.tree.keys c.args.self.now c.in-Some.lone c.self.view_is c.in-Some.is
