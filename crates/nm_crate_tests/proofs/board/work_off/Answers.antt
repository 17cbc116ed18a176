use Rattle.std.proofs.Common.{◌∙◌, ap, sym}
use Rattle.std.specs.Prelude.{slice_get}
use Rattle.nm_crate_tests.proofs.board.work_off.Goals as goal

pub give_copied-requires-clause-laid : goal.give_copied-requires-clause-laid
give_copied-requires-clause-laid c = ap (λ b. slice_get b.jobs c.in-Some.job.ticket) (sym c.loop.invariant.0) ∙ c.in-Some.ensures.job.laid
