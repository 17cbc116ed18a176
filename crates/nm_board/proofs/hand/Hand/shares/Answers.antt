use Rattle.std.proofs.Common.{ap}
use Rattle.nm_board.proofs.hand.Hand.shares.Goals as goal

pub returns-clause-value : goal.returns-clause-value
returns-clause-value g c = ap (λ h. h.shares) c.self.view_is

pub returns-clause-range : goal.returns-clause-range
returns-clause-range g c = (c.self.invariant.some_share, c.self.invariant.at_most)
