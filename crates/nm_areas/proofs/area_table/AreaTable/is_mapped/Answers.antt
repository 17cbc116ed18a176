use Rattle.std.proofs.Common.{◌+◌, ◌-◌, ◌<◌, ◌≤◌, ◌≡◌, refl, ap, sym, ◌∙◌, arith}
use Rattle.nm_model.specs.definitions.Areas.{EndsLow, IsSomePages}
use Rattle.nm_model.specs.definitions.Areas.{is_well_formed}
use Rattle.nm_model.specs.views.Table.{Table}
use Rattle.nm_model.proofs.areas.Parted.{All-among}
use Rattle.nm_model.proofs.areas.Cut.{over_facts}
use Rattle.nm_model.proofs.areas.Repoliced.{mapped_next, mapped_whole}
use Rattle.nm_areas.proofs.Searched.{over_all}
use Rattle.nm_areas.proofs.Filled.{over_inside, mapped_inside, hole_within, no_area}
use Rattle.nm_areas.proofs.area_table.AreaTable.is_mapped.Goals as goal

pub overflow_add-past : goal.overflow_add-past
overflow_add-past g c =
    let facts = over_facts c.args.pid c.args.range.now.first c.args.self.now.areas _ _ c.in-Some.ensures in
    let low = All-among EndsLow c.args.self.now.areas _ c.requires.low facts.0 in
    omega (arith, low, c.number.ensures)

pub goes_on-requires-clause-some : goal.goes_on-requires-clause-some
goes_on-requires-clause-some g c =
    let facts = over_facts c.args.pid c.args.range.now.first c.args.self.now.areas _ _ c.in-Some.ensures in
    All-among IsSomePages c.args.self.now.areas _ c.requires.whole facts.0

pub goes_on-requires-clause-over : goal.goes_on-requires-clause-over
goes_on-requires-clause-over g c =
    over_inside c.self.inside.areas.entries c.args.self.now.areas (ap (λ (t : Table). t.areas) c.self.view_is) c.args.pid _ _
    (over_all c.args.self.now.areas c.requires.apart c.args.pid c.args.range.now.first _ _ c.in-Some.ensures)

pub returns-then-past-number : goal.returns-then-past-number
returns-then-past-number g c =
    let long = c.if-past-number.true in
    sym (mapped_whole c.args.self.now.areas c.args.pid c.args.range.now.first (c.args.range.now.end - c.args.range.now.first) _ _ c.requires.apart c.in-Some.ensures (omega (arith, long, c.number.ensures, c.number-in-Some.ensures, c.requires.order)))

pub returns-then-is_some : goal.returns-then-is_some
returns-then-is_some g c =
    let areas = c.args.self.now.areas in
    let end = c.number-then-is_some.result in
    let facts = over_facts c.args.pid c.args.range.now.first areas _ _ c.in-Some.ensures in
    let size : c.args.range.now.end - c.args.range.now.first ≡ end - c.args.range.now.first = omega (arith, c.number-then-is_some.ensures) in
    c.goes_on.ensures
    ∙ mapped_inside c.self.inside.areas.entries areas (ap (λ (t : Table). t.areas) c.self.view_is) c.args.pid _ _
    ∙ sym (ap (is_well_formed areas c.args.pid c.args.range.now.first) size ∙ mapped_next areas c.args.pid c.args.range.now.first end _ _ _ c.requires.apart c.in-Some.ensures refl (omega (arith, facts.2, c.if-past-number.false, c.number.ensures, c.number-in-Some.ensures, c.number-then-is_some.ensures)))

pub returns-else-is_some : goal.returns-else-is_some
returns-else-is_some g c =
    let facts = over_facts c.args.pid c.args.range.now.first c.args.self.now.areas _ _ c.in-Some.ensures in
    let inside : c.args.range.now.first ≤ c.new.result = omega (arith, facts.2, c.if-past-number.false, c.number.ensures, c.number-in-Some.ensures, c.number-in-Some-2.ensures, c.new.ensures) in
    let last : c.new.result < c.args.range.now.first + (c.args.range.now.end - c.args.range.now.first) = omega (arith, inside, c.number-in-Some-2.ensures, c.new.ensures, c.requires.order, c.number-in-Some.ensures, c.if-past-number.false, c.number.ensures) in
    sym (hole_within c.args.self.now.areas c.args.pid c.args.range.now.first (c.args.range.now.end - c.args.range.now.first) c.new.result inside last (no_area _ c.args.pid _ (sym c.if-is_some.ensures) c.over-in-Some.ensures))
