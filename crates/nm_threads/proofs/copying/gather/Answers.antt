use Rattle.std.proofs.Common.{sym, ◌∙◌, rules}
use Rattle.nm_threads.proofs.Naming.{same_board}
use Rattle.nm_threads.proofs.copying.gather.Goals as goal

pub join-requires-clause-own : goal.join-requires-clause-own
join-requires-clause-own g c = (c.loop-worker.invariant.0.own, same_board c.in-Some.worker.hand.board c.args.board.now (c.in-Some.worker.own ∙ sym c.requires.room))

pub loop-worker-preserved : goal.loop-worker-preserved
loop-worker-preserved g c = search rules
