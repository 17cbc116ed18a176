use Rattle.std.proofs.Common.{arith}
use Rattle.nm_calls.specs.definitions.Outcome.{refusal_of, refused_at_once, end_of_call, runs_asked, start, sets_policy, accesses_asked}
use Rattle.nm_calls.proofs.Outcomes.{answers, refuses, unchanged}
use Rattle.nm_calls.proofs.system.System.free_list.Goals as goal

pub returns-in_err-free_list-clause-done : goal.returns-in_err-free_list-clause-done
unfolding refusal_of refused_at_once end_of_call runs_asked start sets_policy accesses_asked
returns-in_err-free_list-clause-done g c = grind (arith, answers, refuses, unchanged)

pub returns-clause-done : goal.returns-clause-done
unfolding refusal_of refused_at_once end_of_call runs_asked start sets_policy accesses_asked
returns-clause-done g c = grind (arith, answers, refuses, unchanged)
