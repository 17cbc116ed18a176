-- What a reader of a part of a trace returns.
use Rattle.std.specs.Prelude.{◌≡◌, Option, Some, None, Result, Ok, Err}
use Rattle.nm_steps.specs.declared.step_error.StepError.{StepError}
use Rattle.nm_steps.specs.declared.step_error.StepError.TheVariants.{Bad, Memory}

-- an error means that the definition gives nothing, unless memory ran out
abbrev pub FailsStep : {Y : Type 0} → StepError → Option Y → Type 0
FailsStep Bad found = found ≡ None
FailsStep Memory found = Unit {0}

-- a result, mapped by `view`, is what the definition gives
abbrev pub GivesStep : {X Y : Type 0} → (X → Y) → Result X StepError → Option Y → Type 0
GivesStep view (Ok x) found = found ≡ Some (view x)
GivesStep view (Err e) found = FailsStep e found
