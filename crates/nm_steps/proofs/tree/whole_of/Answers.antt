use Rattle.std.proofs.Common.{drop, option_and_then, sym, ap, ◌∙◌, false}
use Rattle.fast_float.specs.Text.{scan}
use Rattle.serde_json.specs.Find.{as_u64}
use Rattle.serde_json.specs.Read.{number_from}
use Rattle.nm_steps.proofs.Trees.{none_below_zero, behind_minus, without_minus}
use Rattle.nm_steps.proofs.tree.whole_of.Goals as goal

pub returns-then-is_negative : goal.returns-then-is_negative
returns-then-is_negative c = sym (ap (option_and_then as_u64) (behind_minus c.args.number.now (sym c.if-is_negative.ensures.value)) ∙ none_below_zero (scan (drop 1 c.args.number.now)))

pub returns-else-is_negative : goal.returns-else-is_negative
returns-else-is_negative c =
    let scanned = c.scan.ensures.parts ∙ ap scan c.as_bytes-bytes.ensures.value in
    c.whole_from.ensures ∙ ap (λ p. option_and_then as_u64 (number_from false p)) scanned ∙ ap (option_and_then as_u64) (sym (without_minus c.args.number.now (sym c.if-is_negative.ensures.value)))
