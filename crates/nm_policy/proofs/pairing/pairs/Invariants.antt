use Rattle.std.proofs.Common.{◌≡◌, ◌+◌, ◌-◌, ◌≤◌, ◌++◌, length}
use Rattle.nm_policy.specs.definitions.Pairs.{pairs_that_move, pairs_after, pairs}
use Rattle.nm_policy.proofs.pairing.pairs.Given as goal

abbrev pub invariant-loop-pair : goal.invariant-loop-pair
invariant-loop-pair g l = record {
  few : length l.left.items + length l.pairs.items ≤ length (pairs_that_move l.fn.old l.fn.new);
  made : l.pairs.items ++ pairs_after (length (pairs_that_move l.fn.old l.fn.new) - length l.pairs.items) l.remaining l.left.items ≡ pairs l.fn.old l.fn.new;
}

abbrev pub decreases-loop-pair : goal.decreases-loop-pair
decreases-loop-pair g l = length l.left.items
