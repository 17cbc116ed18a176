use Rattle.nm_tables.proofs.Trees.{ordered_by}
use Rattle.nm_tables.proofs.index.Index.set.Goals as goal

pub returns-in_err-holding-in-None-clause-ordered : goal.returns-in_err-holding-in-None-clause-ordered
returns-in_err-holding-in-None-clause-ordered g c = ordered_by c.self.inside.root c.args.self.now c.self.view_is c.self.invariant

pub returns-in_ok-holding-in-None-clause-ordered : goal.returns-in_ok-holding-in-None-clause-ordered
returns-in_ok-holding-in-None-clause-ordered g c = ordered_by c.self.inside.root c.args.self.now c.self.view_is c.self.invariant

pub returns-in-Some-clause-ordered : goal.returns-in-Some-clause-ordered
returns-in-Some-clause-ordered g c = ordered_by c.self.inside.root c.args.self.now c.self.view_is c.self.invariant
