use Rattle.std.proofs.Common.{◌^◌}
use Rattle.nm_steps.specs.Form.{number_below}
use Rattle.nm_steps.proofs.Memory.{has_started, starts_listed}
use Rattle.nm_steps.proofs.keys.small_numbers.Goals as goal

pub returns-clause-allocates : goal.returns-clause-allocates
returns-clause-allocates g c = λ is. has_started _ (number_below (2 ^ 32)) _ c.in_ok-list.ensures.value (c.smalls_in.ensures.first is)

pub returns-clause-first : goal.returns-clause-first
returns-clause-first g c = λ is. starts_listed _ (number_below (2 ^ 32)) _ c.in_ok-list.ensures.value (c.smalls_in.ensures.first is)
