use Rattle.nm_steps.proofs.Memory.{handed_on}
use Rattle.nm_steps.proofs.Utf8.{needs_some, text_of_read}
use Rattle.nm_steps.proofs.reading.read_trace.Goals as goal

pub returns-in_err-value-clause-allocates : goal.returns-in_err-value-clause-allocates
returns-in_err-value-clause-allocates g c = λ is.
    let needs = c.value_of.ensures.allocates (handed_on c.from_residual.result c.value_of.result _ _ c.from_residual.ensures c.in_err-value.was is) in
    (needs.0, needs_some _ _ needs.1)

pub returns-clause-allocates : goal.returns-clause-allocates
returns-clause-allocates g c = λ _. text_of_read c.args.bytes.now _ c.in_ok-value.ensures.value
