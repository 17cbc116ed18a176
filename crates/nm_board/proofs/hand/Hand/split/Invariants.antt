use Rattle.nm_board.proofs.hand.Hand.split.Given as goal

abbrev pub ghosts-cut : goal.ghosts-cut
ghosts-cut g a = record { amount = a.shares }
