use Rattle.std.proofs.Common.{ℕ, ap, sym, ◌∙◌, rules}
use Rattle.std.specs.List.{filter}
use Rattle.std.specs.BTreeMap.{BTreeMap}
use Rattle.std.specs.declared.ops.Range.{Range}
use Rattle.std.specs.declared.ops.Bound.TheVariants.{Excluded}
use Rattle.nm_types.specs.declared.area.Area.{Area}
use Rattle.nm_types.specs.Map.{spot_cmp, with_values}
use Rattle.nm_model.specs.definitions.Areas.{with_policy_in}
use Rattle.nm_coverage.proofs.Swept.{sweeps}
use Rattle.nm_areas.proofs.Shifts.{painted_inside, painted_outside}
use Rattle.nm_coverage.proofs.Between.{among_spots}
use Rattle.nm_areas.proofs.policy.paint.Goals as goal

pub returns : goal.returns
returns g c =
    let policy = c.args.policy.now in
    let change = with_policy_in c.args.pid c.args.first c.args.end policy in
    let areas = c.extract_if-walk.ensures in
    let ran = c.next.ensures.steps in
    let entries = λ (m : BTreeMap (ℕ × ℕ) Area). m.entries in
    let swept = sweeps _ spot_cmp _ (λ (r : Range (ℕ × ℕ)). Excluded r.end) _ _ (among_spots c.args.pid c.args.first c.args.end) (λ (x : Area). record x { policy = policy }) change
    (painted_inside c.args.pid c.args.first c.args.end policy) (painted_outside c.args.pid c.args.first c.args.end policy) (λ k v b w f t. search rules) (λ q. tt) c.extract_if-walk.result c.next.new.self c.next.result
    ran areas.holds (areas.rest tt ∙ ap (λ (m : BTreeMap (ℕ × ℕ) Area). filter (λ e. among_spots c.args.pid c.args.first c.args.end e.0) m.entries) (sym areas.unchanged)) in
    ap entries (c.areas-1.given.1 (sym (ran.0 ∙ areas.same_map))) ∙ swept ∙ ap (λ (m : BTreeMap (ℕ × ℕ) Area). with_values change m.entries) areas.unchanged
