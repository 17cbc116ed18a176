use Rattle.nm_threads.specs.Named.{identity_of}
use Rattle.nm_threads.proofs.copying.copy_while.Given as goal

abbrev pub ghosts-copy_by : goal.ghosts-copy_by
ghosts-copy_by g a = record { board = identity_of a.board }
