-- What a run is asked for and gives, as contracts see the values of the code.
use Rattle.std.specs.Prelude.{List, [], ◌∷◌, map}
use Rattle.std.specs.Borrow.{Bor}
use Rattle.nm_types.specs.State.{State}
use Rattle.nm_types.specs.declared.access.Access.{Access as Asked}
use Rattle.nm_runs.specs.declared.Run.{Run}
use Rattle.nm_model.specs.definitions.Run.{RunResult}
use Rattle.nm_model.specs.definitions.Touch.{Access}
use Rattle.nm_model.specs.views.Asked.{access_shown}
use Rattle.nm_pool.specs.views.Accesses.{answer_shown}
use Rattle.nm_engine.specs.declared.answers.RunAnswer.{RunAnswer}
use Rattle.nm_engine.specs.definitions.Orders.{RunRequest}

module _ {A : Type 0} where
  -- accesses that are lent
  abbrev pub accesses_shown : List (Bor (Asked A)) → List Access
  accesses_shown accesses = map (λ a. access_shown a.now) accesses

  -- a run that is to be made
  abbrev pub asked_by : Run A → List (Bor (Asked A)) → RunRequest
  asked_by requests accesses = record { target = requests.target; wanted = requests.wanted.items; accesses = accesses_shown accesses }

  -- a run that was made: the state after it, and its answer
  abbrev pub ran_by : State → RunAnswer A → RunResult
  ran_by after landed = record { state = after; statuses = landed.statuses.items; answers = map answer_shown landed.answers.items ∷ [] }
