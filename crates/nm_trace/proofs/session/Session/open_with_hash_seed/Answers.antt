use Rattle.nm_steps.proofs.Memory.{handed_on}
use Rattle.nm_steps.proofs.Utf8.{text_of_read}
use Rattle.nm_trace.proofs.Sessions.{text_of_memory}
use Rattle.nm_trace.proofs.session.Session.open_with_hash_seed.Goals as goal

pub returns-in_err-value-clause-allocates : goal.returns-in_err-value-clause-allocates
returns-in_err-value-clause-allocates g c = λ is.
    text_of_memory _ c.args.bytes.now (c.value_of.ensures.allocates (handed_on c.from_residual.result c.value_of.result _ _ c.from_residual.ensures c.in_err-value.was is))

pub returns-in_err-geometry-clause-allocates : goal.returns-in_err-geometry-clause-allocates
returns-in_err-geometry-clause-allocates g c = λ _. text_of_read c.args.bytes.now _ c.in_ok-value.ensures.value

pub returns-in_err-run_limit-clause-allocates : goal.returns-in_err-run_limit-clause-allocates
returns-in_err-run_limit-clause-allocates g c = λ _. text_of_read c.args.bytes.now _ c.in_ok-value.ensures.value

pub returns-in_default-clause-allocates : goal.returns-in_default-clause-allocates
returns-in_default-clause-allocates g c = λ _. text_of_read c.args.bytes.now _ c.in_ok-value.ensures.value
