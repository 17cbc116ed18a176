use Rattle.std.proofs.Common.{◌<◌, ℕ, List, Option, length, sym, ap, subst, ◌∙◌, refl}
use Rattle.std.specs.Option.{ok_or}
use Rattle.std.proofs.lemmas.Str.{is_utf8-from_IsUtf8}
use Rattle.serde_json.specs.Data.{Data}
use Rattle.serde_json.specs.Read.{read}
use Rattle.nm_steps.specs.declared.trace_error.TraceError.TheVariants.{NotJson}
use Rattle.nm_steps.specs.Faults.{trace_of}
use Rattle.nm_steps.proofs.Utf8.{text_of_read, value_is, value_none}
use Rattle.nm_uses.proofs.values.read_value.Goals as goal

pub returns-in_default-clause-trace : goal.returns-in_default-clause-trace
unfolding trace_of
returns-in_default-clause-trace c = rw (value_none c.args.bytes.now (λ u. absurd (c.in_default.ensures.cases.0 u))) refl

pub returns-clause-trace : goal.returns-clause-trace
unfolding trace_of
returns-clause-trace c =
    let text = c.in-Ok.ensures.cases in
    rw (value_is c.args.bytes.now _ text.1 (ap read (sym text.0) ∙ c.in-Ok-from_str.ensures.ok)) c.from_value.ensures.trace

pub returns-clause-allocates : goal.returns-clause-allocates
returns-clause-allocates c = λ _.
    let text = c.in-Ok.ensures.cases in
    let found = value_is c.args.bytes.now _ text.1 (ap read (sym text.0) ∙ c.in-Ok-from_str.ensures.ok) in
    text_of_read c.args.bytes.now _ (ap (λ (o : Option Data). ok_or o NotJson) found)

pub returns-then-is_memory-clause-allocates : goal.returns-then-is_memory-clause-allocates
returns-then-is_memory-clause-allocates c = λ _.
    let text = c.in-Ok.ensures.cases in
    let memory = c.in-Err.ensures.memory (c.is_memory.ensures.0 c.if-is_memory.true) in
    (is_utf8-from_IsUtf8 c.args.bytes.now text.1, subst (λ (xs : List ℕ). 0 < length xs) text.0 memory)
