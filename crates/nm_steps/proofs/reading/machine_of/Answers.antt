use Rattle.std.proofs.Common.{sym}
use Rattle.nm_steps.proofs.Memory.{has_rows, has_sizes, handed_on}
use Rattle.nm_steps.proofs.reading.machine_of.Goals as goal

pub returns-in_err-sizes-clause-allocates : goal.returns-in_err-sizes-clause-allocates
returns-in_err-sizes-clause-allocates g c = λ is.
    let machine = sym (rw c.in_ok-machine.ensures.ok_part at c.get.ensures) in
    let memory = handed_on c.from_residual-in_err-sizes.result c.small_numbers.result _ _ c.from_residual-in_err-sizes.ensures c.in_err-sizes.was is in
    has_sizes (g.V.JsonValue.as_data c.args.value.now) _ machine (c.small_numbers.ensures.first memory)

pub returns-in_err-distances-clause-allocates : goal.returns-in_err-distances-clause-allocates
returns-in_err-distances-clause-allocates g c = λ is.
    let machine = sym (rw c.in_ok-machine.ensures.ok_part at c.get.ensures) in
    let memory = handed_on c.from_residual-in_err-distances.result c.rows_in.result _ _ c.from_residual-in_err-distances.ensures c.in_err-distances.was is in
    has_rows _ (g.V.JsonValue.as_data c.args.value.now) _ _ machine c.in_ok-sizes.ensures.value c.in_ok-list.ensures.value (c.rows_in.ensures.first memory)
