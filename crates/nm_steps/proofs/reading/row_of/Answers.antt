use Rattle.std.proofs.Common.{◌^◌, sym}
use Rattle.nm_steps.specs.Form.{number_below}
use Rattle.nm_steps.proofs.Memory.{has_started}
use Rattle.nm_steps.proofs.reading.row_of.Goals as goal

pub returns-clause-allocates : goal.returns-clause-allocates
returns-clause-allocates g c = λ is.
    let list = sym (rw c.in_ok-ok_or.ensures.ok_part at c.as_list.ensures) in
    has_started _ (number_below (2 ^ 8)) _ list (c.distances_in.ensures.first is)
