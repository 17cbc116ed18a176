use Rattle.std.proofs.Common.{◌≡◌, drop, true, false, is_some, sym, ap, ◌∙◌, take_all, length-drop, arith}
use Rattle.fast_float.specs.Text.{scan}
use Rattle.serde_json.specs.Read.{number_from}
use Rattle.nm_steps.proofs.Trees.{behind_minus, without_minus}
use Rattle.nm_steps.proofs.tree.is_in_range.Goals as goal

pub returns-then-is_negative : goal.returns-then-is_negative
returns-then-is_negative c =
    let s = c.as_bytes-bytes.result.now in
    let rest : scan (drop 1 s) ≡ scan (drop 1 c.args.number.now) = ap (λ t. scan (drop 1 t)) c.as_bytes-bytes.ensures.value in
    let scanned : c.scan.result ≡ scan (drop 1 s) = c.scan.ensures.parts ∙ ap scan (take_all _ (drop 1 s) (omega (arith, length-drop 1 s))) in
    c.is_in_range_below_zero.ensures ∙ ap (λ p. is_some (number_from true p)) (scanned ∙ rest) ∙ ap is_some (sym (behind_minus c.args.number.now (sym c.if-is_negative.ensures.value)))

pub returns-else-is_negative : goal.returns-else-is_negative
returns-else-is_negative c =
    let scanned = c.scan-else-is_negative.ensures.parts ∙ ap scan c.as_bytes-bytes.ensures.value in
    c.is_in_range_above_zero.ensures ∙ ap (λ p. is_some (number_from false p)) scanned ∙ ap is_some (sym (without_minus c.args.number.now (sym c.if-is_negative.ensures.value)))
