use Rattle.nm_board.proofs.Callers.{can_give}
use Rattle.nm_crate_tests.proofs.board.give_copied.Goals as goal

pub give-requires-clause-job : goal.give-requires-clause-job
give-requires-clause-job c = can_give c.args.board.now.jobs c.args.job c.copy.new.self c.requires.laid c.copy.ensures
