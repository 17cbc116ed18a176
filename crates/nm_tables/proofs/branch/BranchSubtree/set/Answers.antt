use Rattle.nm_tables.specs.views.Branches.{parts_of}
use Rattle.nm_tables.specs.definitions.Nodes.{IsFilledNode}
use Rattle.std.proofs.Common.{subst}
use Rattle.nm_tables.proofs.branch.BranchSubtree.set.Goals as goal

pub set-requires-clause-kept : goal.set-requires-clause-kept
set-requires-clause-kept g c = (subst (λ b. IsFilledNode g.T.Subtree.whole g.T.Subtree.is_in (parts_of b)) c.in-One.is c.requires.kept).0.1.0.0

pub set_beside-requires-clause-kept : goal.set_beside-requires-clause-kept
set_beside-requires-clause-kept g c = subst (λ b. IsFilledNode g.T.Subtree.whole g.T.Subtree.is_in (parts_of b)) c.in-One.is c.requires.kept

pub set-requires-in-Many-clause-kept : goal.set-requires-in-Many-clause-kept
set-requires-in-Many-clause-kept g c = subst (λ b. IsFilledNode g.T.Subtree.whole g.T.Subtree.is_in (parts_of b)) c.in-Many.is c.requires.kept
