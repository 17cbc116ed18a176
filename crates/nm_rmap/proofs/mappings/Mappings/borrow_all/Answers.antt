use Rattle.nm_rmap.proofs.Lone.{lone_ordered}
use Rattle.nm_rmap.proofs.mappings.Mappings.borrow_all.Goals as goal

pub returns-in-Some-clause-ordered : goal.returns-in-Some-clause-ordered
returns-in-Some-clause-ordered g c = lone_ordered c.self.inside.lone c.self.inside.tree.keys c.args.self.now (c.in-Some.pid, c.in-Some.vpn) c.self.view_is c.in-Some.is
