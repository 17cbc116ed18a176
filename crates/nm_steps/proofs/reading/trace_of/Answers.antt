use Rattle.nm_steps.specs.declared.trace_error.TraceError.TheVariants.{BadMachine}
use Rattle.nm_steps.proofs.Memory.{machine_begins, some_is}
use Rattle.nm_steps.proofs.reading.trace_of.Goals as goal

pub returns-clause-allocates : goal.returns-clause-allocates
returns-clause-allocates g c = λ _.
    machine_begins (g.V.JsonValue.as_data c.args.value.now) _ (some_is _ BadMachine _ c.in_ok-geometry.ensures.machine)
