use Rattle.std.proofs.Common.{◌≡◌, sym, arith}
use Rattle.nm_board.proofs.Stepping.{splits}
use Rattle.nm_board.proofs.steps.cut.Goals as goal

pub split_seat-requires : goal.split_seat-requires
split_seat-requires g c = let a : g.N.Amount.amount ≡ c.args.shares = sym c.requires.amount in let lt = c.requires.shares.1 in (
  c.requires.table.0,
  omega arith,
  splits _ g.N.Amount.amount _ _ (omega arith) (omega arith),
)
