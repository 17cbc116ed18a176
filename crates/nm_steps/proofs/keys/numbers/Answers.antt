use Rattle.nm_steps.specs.Form.{u64_of}
use Rattle.nm_steps.proofs.Memory.{has_started, starts_listed}
use Rattle.nm_steps.proofs.keys.numbers.Goals as goal

pub returns-clause-allocates : goal.returns-clause-allocates
returns-clause-allocates g c = λ is. has_started _ u64_of _ c.in_ok-list.ensures.value (c.numbers_in.ensures.first is)

pub returns-clause-first : goal.returns-clause-first
returns-clause-first g c = λ is. starts_listed _ u64_of _ c.in_ok-list.ensures.value (c.numbers_in.ensures.first is)
