use Rattle.std.proofs.Common.{◌≡◌, sym, subst, ◌∙◌}
use Rattle.std.specs.Prelude.{Result, Ok, Err, IfOk}
use Rattle.nm_types.specs.State.{State}
use Rattle.nm_laws.specs.Interleavings.{EveryOrderIsTheRun, IsRun}
use Rattle.nm_model.specs.definitions.Run.{run}
use Rattle.nm_engine.specs.declared.answers.RunAnswer.{RunAnswer}
use Rattle.nm_engine.specs.definitions.Orders.{EndsSo, RunRequest, result_of_run}
use Rattle.nm_engine.specs.views.Runs.{asked_by, ran_by}
use Rattle.nm_engine.proofs.machine.Machine.run_flight.Goals as goal

-- the law of all orders says that of the run by the definitions, which is what was made
module _ {A E : Type 0} where
  orders_of : (r : Result (RunAnswer A) E) (s new : State) (asked : RunRequest) → EveryOrderIsTheRun → IfOk r (λ f. ran_by new f ≡ result_of_run s asked) → IfOk r (λ f. EndsSo s asked (ran_by new f))
  orders_of (Err e) s new asked law made = tt
  orders_of (Ok f) s new asked law made = λ m events n starts unfolds same ended.
      subst (IsRun n) ((λ i. run (starts i) asked.target asked.wanted (same i)) ∙ sym made) (law m asked.target asked.wanted events n unfolds ended)

pub returns-clause-ends : goal.returns-clause-ends
returns-clause-ends g c =
    orders_of c.replace_with.result c.args.self.now _ (asked_by c.args.requests.now c.args.accesses.now) c.interleavings.ensures.orders c.replace_with.ensures.0

pub returns-clause-run : goal.returns-clause-run
returns-clause-run g c = c.replace_with.ensures.0

pub returns-clause-events : goal.returns-clause-events
returns-clause-events g c = c.replace_with.ensures.1.1.0
