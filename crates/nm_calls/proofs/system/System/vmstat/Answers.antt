use Rattle.std.proofs.Common.{arith}
use Rattle.nm_calls.specs.definitions.Outcome.{refusal_of, refused_at_once, end_of_call, runs_asked, start, sets_policy, accesses_asked}
use Rattle.nm_calls.proofs.Outcomes.{answers, refuses, unchanged}
use Rattle.nm_calls.proofs.system.System.vmstat.Goals as goal

pub returns-clause-moved : goal.returns-clause-moved
unfolding refusal_of refused_at_once end_of_call runs_asked start sets_policy accesses_asked
returns-clause-moved g c = grind (arith, answers, refuses, unchanged)

pub returns-clause-answer : goal.returns-clause-answer
unfolding refusal_of refused_at_once end_of_call runs_asked start sets_policy accesses_asked
returns-clause-answer g c = grind (arith, answers, refuses, unchanged)
