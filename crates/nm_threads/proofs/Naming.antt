-- Boards with the same name are the same.
use Rattle.std.proofs.Common.{◌≡◌, List, [], ◌∷◌, map, sym, refl, ap, ◌∙◌}
use Rattle.nm_frames.specs.declared.job.CopyJob.{CopyJob}
use Rattle.nm_board.specs.Shown.{Laying}
use Rattle.nm_threads.specs.Named.{recast, identity_of}

module _ {A : Type 0} where
  recast_back : (jobs : List (CopyJob A)) → map (recast {A = Unit {0}} {B = A}) (map (recast {A = A} {B = Unit {0}}) jobs) ≡ jobs
  recast_back [] = refl
  recast_back (job ∷ jobs) = ap (λ (l : List (CopyJob A)). job ∷ l) (recast_back jobs)

  abbrev back : Laying (Unit {0}) → Laying A
  back board = record { id = board.id; jobs = map recast board.jobs }

  back_named : (board : Laying A) → back (identity_of board) ≡ board
  back_named board = ap (λ (jobs : List (CopyJob A)). (λ (b : Laying A). b) (record { id = board.id; jobs = jobs })) (recast_back board.jobs)

  pub same_board : (a b : Laying A) → identity_of a ≡ identity_of b → a ≡ b
  same_board a b e = sym (back_named a) ∙ (ap back e ∙ back_named b)
