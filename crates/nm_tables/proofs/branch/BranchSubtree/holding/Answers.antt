use Rattle.std.proofs.Common.{refl}
use Rattle.nm_tables.proofs.Branches.{one_part, one_some}
use Rattle.nm_tables.proofs.branch.BranchSubtree.holding.Goals as goal

pub returns-clause-kept : goal.returns-clause-kept
returns-clause-kept g c = (one_part g.T.Subtree.whole g.T.Subtree.is_in c.number_of.result (g.T.Subtree.number c.args.block) c.in_ok-part.part c.in_ok-part.ensures.kept c.in_ok-part.ensures.inside c.number_of.ensures, one_some _ (c.number_of.result, c.in_ok-part.part) refl)
