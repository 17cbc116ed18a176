use Rattle.std.proofs.Common.{Err, subst, sym, ap, ◌∙◌, refl}
use Rattle.std.proofs.lemmas.Str.{is_utf8-from_IsUtf8}
use Rattle.json.specs.Scratch.{room}
use Rattle.serde_json.specs.Read.{read}
use Rattle.nm_steps.specs.Memory.{NeedsMemory}
use Rattle.nm_steps.proofs.Utf8.{value_is, value_none}
use Rattle.nm_steps.proofs.reading.value_of.Goals as goal

pub returns-in_default-clause-value : goal.returns-in_default-clause-value
returns-in_default-clause-value c = rw (value_none c.args.bytes.now (λ u. absurd (c.in_default.ensures.cases.0 u))) refl

pub returns-in-Ok-read-clause-value : goal.returns-in-Ok-read-clause-value
returns-in-Ok-read-clause-value c =
    let text = c.in-Ok.ensures.cases in
    rw (value_is c.args.bytes.now _ text.1 (ap read (sym text.0) ∙ c.in-Ok-read.ensures.value)) refl

pub returns-in-Err-Memory-clause-allocates : goal.returns-in-Err-Memory-clause-allocates
returns-in-Err-Memory-clause-allocates c = λ _.
    let text = c.in-Ok.ensures.cases in
    (is_utf8-from_IsUtf8 c.args.bytes.now text.1, subst (NeedsMemory (room c.args.scratch.now)) text.0 (c.in-Err-Memory.ensures.allocates (ap Err c.in-Err-Memory.field-0-is)))
