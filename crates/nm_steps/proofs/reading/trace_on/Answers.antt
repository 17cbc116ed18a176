use Rattle.nm_steps.specs.declared.trace_error.TraceError.TheVariants.{BadMachine}
use Rattle.nm_steps.proofs.Memory.{handed_on, some_is, steps_begin}
use Rattle.nm_steps.proofs.reading.trace_on.Goals as goal

pub returns-in_err-calls-clause-allocates : goal.returns-in_err-calls-clause-allocates
returns-in_err-calls-clause-allocates g c = λ is.
    let first = c.calls_in.ensures.first (handed_on c.from_residual-in_err-calls.result c.calls_in.result _ _ c.from_residual-in_err-calls.ensures c.in_err-calls.was is) in
    steps_begin _ (g.V.JsonValue.as_data c.args.value.now) _ (some_is _ BadMachine _ c.in_ok-run_limit.ensures.limit) (some_is _ BadMachine _ c.in_ok-list.ensures.values) first
