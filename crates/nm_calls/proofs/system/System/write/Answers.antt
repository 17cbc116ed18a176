use Rattle.std.proofs.Common.{arith}
use Rattle.nm_calls.specs.definitions.Outcome.{refusal_of, refused_at_once, end_of_call, runs_asked, start, sets_policy, accesses_asked}
use Rattle.nm_calls.proofs.Outcomes.{answers, refuses, unchanged, write_goes}
use Rattle.nm_calls.proofs.system.System.write.Goals as goal

pub returns-clause-done : goal.returns-clause-done
unfolding refusal_of refused_at_once end_of_call runs_asked start sets_policy accesses_asked
returns-clause-done g c = grind (arith, answers, refuses, unchanged, write_goes)
