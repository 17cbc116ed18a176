use Rattle.std.proofs.Common.{◌≡◌, ◌/◌, ap, subst}
use Rattle.std.specs.List.{AllByRecursion}
use Rattle.std.specs.Map.{keys_of}
use Rattle.nm_tables.specs.views.Branches.{parts_of}
use Rattle.nm_tables.proofs.Branches.{found_inside}
use Rattle.nm_tables.proofs.branch.BranchSubtree.remove.Goals as goal

pub remove-requires-clause-inside : goal.remove-requires-clause-inside
remove-requires-clause-inside g c =
    g.met.T.Subtree.takes_own c.in-One.part c.args.block (found_inside g.T.Subtree.slots g.T.Subtree.number g.T.Subtree.whole g.T.Subtree.is_in g.met.T.Subtree.parted g.met.T.Subtree.upwards (parts_of c.args.self.now) c.requires.kept.0 c.in-One.field-0 c.args.block c.in-One.part (ap parts_of c.in-One.is) c.requires.there)

pub returns-in-Many-clause-inside : goal.returns-in-Many-clause-inside
returns-in-Many-clause-inside g c i all = c.remove-in-Many.ensures.inside i (subst (λ ps. AllByRecursion (λ k. k / 512 ≡ i) (keys_of ps)) (ap parts_of c.in-Many.is) all)
