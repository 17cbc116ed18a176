use Rattle.std.proofs.Common.{ap, sym, ◌∙◌, rules}
use Rattle.std.specs.List.{filter}
use Rattle.std.specs.BTreeMap.{BTreeMap}
use Rattle.std.specs.declared.ops.Range.{Range}
use Rattle.std.specs.declared.ops.Bound.TheVariants.{Excluded}
use Rattle.nm_types.specs.declared.page.Page.{Page}
use Rattle.nm_types.specs.Map.{get, page_cmp, with_values}
use Rattle.nm_types.proofs.Maps.{get-values, exact_page}
use Rattle.nm_coverage.specs.declared.step.Step.{Step}
use Rattle.nm_coverage.specs.Shifted.{is_page_within, shift_step}
use Rattle.nm_coverage.proofs.Swept.{sweeps}
use Rattle.nm_coverage.proofs.Shifts.{stepped, stepped_inside, stepped_outside}
use Rattle.nm_coverage.proofs.coverage.shift_stored.Goals as goal

pub returns : goal.returns
returns g c p =
    let a = c.args in
    let change = stepped a.from a.to a.up in
    let steps = c.extract_if-walk.ensures in
    let ran = c.next.ensures.steps in
    let entries = λ (m : BTreeMap Page Step). m.entries in
    let swept = sweeps _ page_cmp _ (λ (r : Range Page). Excluded r.end) _ _ (is_page_within a.from a.to) (shift_step a.up) change
    (stepped_inside a.from a.to a.up) (stepped_outside a.from a.to a.up) (λ k v b w f t. search rules) (λ q. tt) c.extract_if-walk.result c.next.new.self c.next.result
    ran steps.holds (steps.rest tt ∙ ap (λ (m : BTreeMap Page Step). filter (λ e. is_page_within a.from a.to e.0) m.entries) (sym steps.unchanged)) in
    ap (λ m. get page_cmp m p) (ap entries (c.stored-1.given.1 (sym (ran.0 ∙ steps.same_map))) ∙ swept ∙ ap (λ (m : BTreeMap Page Step). with_values change m.entries) steps.unchanged)
    ∙ get-values exact_page change c.args.stored.now.entries p
