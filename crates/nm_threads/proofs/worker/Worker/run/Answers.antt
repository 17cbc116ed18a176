use Rattle.std.proofs.Common.{sym, ◌∙◌}
use Rattle.nm_threads.proofs.Naming.{same_board}
use Rattle.nm_threads.proofs.worker.Worker.run.Goals as goal

pub work_off-requires : goal.work_off-requires
work_off-requires g c = record {
  own = same_board c.args.self.now.hand.board c.args.board.now (c.args.self.now.own ∙ sym c.requires);
  back = c.args.self.now.back;
  open_end = sym c.past_end.ensures.value ∙ c.if-not-past_end.true;
}
