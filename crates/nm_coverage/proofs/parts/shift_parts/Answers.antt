use Rattle.std.proofs.Common.{ap, sym, ◌∙◌, rules}
use Rattle.std.specs.List.{filter}
use Rattle.std.specs.BTreeMap.{BTreeMap}
use Rattle.std.specs.declared.ops.Range.{Range}
use Rattle.std.specs.declared.ops.Bound.TheVariants.{Excluded}
use Rattle.nm_types.specs.declared.page.Page.{Page}
use Rattle.nm_types.specs.Map.{page_cmp, with_values}
use Rattle.nm_coverage.specs.declared.parts.Part.{Part}
use Rattle.nm_coverage.specs.Shifted.{is_page_within, one_more_or_less}
use Rattle.nm_coverage.proofs.Swept.{sweeps}
use Rattle.nm_coverage.proofs.Shifts.{moved, moved_inside, moved_outside, parts_moved}
use Rattle.nm_coverage.proofs.parts.shift_parts.Goals as goal

pub returns : goal.returns
returns g c =
    let a = c.args in
    let change = moved a.from a.to a.up in
    let parts = c.extract_if-walk.ensures in
    let ran = c.next.ensures.steps in
    let entries = λ (m : BTreeMap Page Part). m.entries in
    let swept = sweeps _ page_cmp _ (λ (r : Range Page). Excluded r.end) _ _ (is_page_within a.from a.to) (λ (v : Part). record v { add = one_more_or_less a.up v.add }) change
    (moved_inside a.from a.to a.up) (moved_outside a.from a.to a.up) (λ k v b w f t. search rules) (λ q. tt) c.extract_if-walk.result c.next.new.self c.next.result
    ran parts.holds (parts.rest tt ∙ ap (λ (m : BTreeMap Page Part). filter (λ e. is_page_within a.from a.to e.0) m.entries) (sym parts.unchanged)) in
    parts_moved a.from a.to a.up a.parts.now.entries _ c.requires.ordered c.requires.first c.requires.last
    (ap entries (c.parts-1.given.1 (sym (ran.0 ∙ parts.same_map))) ∙ swept ∙ ap (λ (m : BTreeMap Page Part). with_values change m.entries) parts.unchanged)
