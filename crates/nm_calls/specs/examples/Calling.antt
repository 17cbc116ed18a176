-- Calls in the worked examples: what one answers, and what it leaves.
use Rattle.std.specs.Prelude.{ℕ, List, map, Option}
use Rattle.nm_types.specs.State.{State}
use Rattle.nm_model.specs.examples.{frame_shown_at}
use Rattle.nm_requests.specs.Calls.{default_limit, Call}
use Rattle.nm_calls.specs.definitions.Systems.{SystemState}
use Rattle.nm_calls.specs.definitions.Answers.{Answer}
use Rattle.nm_calls.specs.definitions.Outcome.{outcome}

-- a system in this state, with this limit on runs
abbrev pub system_within : ℕ → State → SystemState
system_within limit s = record { state = s; run_limit = limit }

-- .. and with the default limit, which is the greatest
abbrev pub system_in : State → SystemState
system_in s = system_within default_limit s

-- the answer of a call
abbrev pub answer_to : State → Call → Answer
answer_to s call = (outcome (system_in s) call).answer

-- the state after it
abbrev pub after_call : State → Call → State
after_call s call = (outcome (system_in s) call).system.state

-- what an example shows of a state: the free lists, the totals, and the frames at some addresses of process 1
pub record StateOutline : Type 0 where
  pub free : List (List ℕ)
  pub moved : ℕ
  pub failed : ℕ
  pub frames : List (Option ℕ)

abbrev pub outline_of : State → List ℕ → StateOutline
outline_of s addresses =
    record { free = s.free; moved = s.moved; failed = s.failed; frames = map (frame_shown_at s 1) addresses }
