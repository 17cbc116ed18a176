use Rattle.nm_board.proofs.steps.put_in.Goals as goal

pub returns : goal.returns
returns g c = (c.exchange.ensures.0, c.exchange.ensures.1, c.exchange.ensures.3)
