use Rattle.std.proofs.Common.{◌≡◌, take, map}
use Rattle.nm_steps.specs.Lists.{whole}
use Rattle.nm_steps.specs.Tree.{view}
use Rattle.nm_steps.proofs.tree.trees_of.Given as goal

abbrev pub invariant-loop-number : goal.invariant-loop-number
invariant-loop-number l = map view l.trees.items ≡ map whole (take l.number-index l.numbers)
