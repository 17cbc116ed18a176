use Rattle.std.proofs.Common.{◌≡◌, [], false}
use Rattle.nm_crate_tests.proofs.board.work_off.Given as goal

abbrev pub invariant-loop : goal.invariant-loop
invariant-loop l = (l.hand.board ≡ l.board) × (l.hand.out ≡ []) × (l.hand.past_end ≡ false) × (l.hand.shares ≡ l.fn.hand.shares)
