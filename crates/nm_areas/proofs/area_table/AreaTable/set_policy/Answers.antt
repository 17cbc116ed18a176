use Rattle.std.proofs.Common.{◌∙◌, ap, arith}
use Rattle.std.specs.List.{flat_map}
use Rattle.nm_types.specs.Map.{with_values}
use Rattle.nm_model.specs.views.Table.{Table}
use Rattle.nm_model.specs.definitions.Areas.{parts_with_policy, with_policy_in}
use Rattle.nm_model.specs.views.Table.{with_areas}
use Rattle.nm_model.proofs.areas.Cut.{areas_alone}
use Rattle.nm_areas.proofs.Counted.{err_always}
use Rattle.nm_areas.proofs.Indexed.{paint_index}
use Rattle.nm_model.proofs.areas.Repoliced.{all_repoliced}
use Rattle.nm_areas.proofs.area_table.AreaTable.set_policy.Goals as goal

pub invariant_of-self : goal.invariant_of-self
invariant_of-self g c =
    paint_index c.args.pid c.args.range.first c.args.range.end c.args.policy c.self.inside.by_segment.keys c.self.inside.areas.entries c.paint.new.areas.entries c.self.invariant c.paint.ensures

pub returns-clause-ok : goal.returns-clause-ok
returns-clause-ok g c =
    let pid = c.args.pid in
    let first = c.args.range.first in
    let end = c.args.range.end in
    let areas = c.args.self.now.areas in
    let after = flat_map (parts_with_policy pid first end c.args.policy) areas in
    let split = c.in_ok-cut.ensures.ok in
    areas_alone c.self.inside.areas.entries c.paint.new.areas.entries after c.self.inside.segments.entries c.self.inside.next_segment c.cut.new.self c.self.view_is
    (c.paint.ensures ∙ ap (with_values (with_policy_in pid first end c.args.policy)) (ap (λ (m : Table). m.areas) (c.self.view_is ∙ split))
    ∙ all_repoliced pid first end c.args.policy (omega (arith, c.requires.some)) areas c.requires.whole)
    ∙ ap (λ (m : Table). with_areas m after) split

pub returns-in_err-cut-clause-allocates : goal.returns-in_err-cut-clause-allocates
returns-in_err-cut-clause-allocates g c =
    err_always c.from_residual.result c.in_err-cut.ensures.allocates
