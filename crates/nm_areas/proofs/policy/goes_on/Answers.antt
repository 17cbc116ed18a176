use Rattle.std.proofs.Common.{ℕ, ◌+◌, ◌-◌, ap, sym, ◌∙◌, arith}
use Rattle.nm_types.proofs.Maps.{spot_cmp_total}
use Rattle.nm_model.specs.definitions.Areas.{EndsLow}
use Rattle.nm_model.specs.definitions.Areas.{is_well_formed}
use Rattle.nm_model.proofs.areas.Parted.{All-among}
use Rattle.nm_model.proofs.areas.Overs.{get_among}
use Rattle.nm_model.proofs.areas.Painted.{exact_spot}
use Rattle.nm_model.proofs.areas.Repoliced.{mapped_next}
use Rattle.nm_areas.proofs.Searched.{begun_all, over_it}
use Rattle.nm_areas.proofs.Rests.{rest_begins}
use Rattle.nm_areas.proofs.Filled.{none_reaches, none_within, none_there, hole_first, begins_from, pages_some}
use Rattle.nm_areas.proofs.policy.goes_on.Goals as goal

pub overflow_add-at : goal.overflow_add-at
overflow_add-at g c =
    let low = All-among EndsLow c.args.areas.now.entries ((c.args.pid, c.args.first), c.args.area) c.requires.low (over_it c.args.areas.now.entries c.args.pid c.args.first c.args.area c.requires.some c.requires.over) in
    omega (arith, low, c.number.ensures)

pub loop-at-init : goal.loop-at-init
loop-at-init g c =
    let areas = c.args.areas.now.entries in
    record {
      mapped = ap (λ (n : ℕ). is_well_formed areas c.args.pid (n + c.args.area.pages) (c.args.end - (n + c.args.area.pages))) (sym c.number.ensures);
      reaches = none_reaches areas c.requires.apart c.requires.whole c.args.pid c.args.first c.args.area c.requires.some c.requires.over c.number.result c.number.ensures;
      rest = (
        c.new.result,
        omega (arith, c.new.ensures),
        λ v low high. absurd (omega (arith, low, high, c.new.ensures)),
        rest_begins spot_cmp_total (c.args.pid, c.new.result) exact_spot areas c.range-rest.result c.range-rest.ensures.ordered (c.range-rest.ensures.between tt),
      );
    }

pub returns-in_default : goal.returns-in_default
returns-in_default g c =
    let areas = c.args.areas.now.entries in
    let rest = c.loop-at.invariant.rest in
    let none = c.in_default.ensures.none areas rest.0 rest.3 c.loop-at.at rest.1 (omega (arith, c.new-in-loop-at.ensures)) in
    sym (c.loop-at.invariant.mapped ∙ hole_first areas c.args.pid c.loop-at.at (c.args.end - c.loop-at.at) (omega (arith, c.loop-at-test.true)) (none_there areas c.args.pid c.loop-at.at c.loop-at.invariant.reaches none))

pub overflow_add-at-in-loop-at-2 : goal.overflow_add-at-in-loop-at-2
overflow_add-at-in-loop-at-2 g c =
    let rest = c.loop-at.invariant.rest in
    let some = c.in-Some.ensures.some c.args.areas.now.entries rest.0 rest.3 in
    let low = All-among EndsLow c.args.areas.now.entries _ c.requires.low (get_among c.args.areas.now.entries _ _ some.2) in
    omega (arith, low, c.number-in-loop-at.ensures)

pub loop-at-smaller : goal.loop-at-smaller
loop-at-smaller g c =
    let areas = c.args.areas.now.entries in
    let rest = c.loop-at.invariant.rest in
    let some = c.in-Some.ensures.some areas rest.0 rest.3 in
    let up = begins_from areas c.args.pid rest.0 c.loop-at.at _ _ rest.2 some.0 some.2 in
    let pages = pages_some areas c.args.pid _ _ c.requires.whole some.2 in
    omega (arith, up, pages, c.number-in-loop-at.ensures, c.loop-at-test.true)

pub loop-at-preserved : goal.loop-at-preserved
loop-at-preserved g c =
    let areas = c.args.areas.now.entries in
    let rest = c.loop-at.invariant.rest in
    let some = c.in-Some.ensures.some areas rest.0 rest.3 in
    let up = begins_from areas c.args.pid rest.0 c.loop-at.at _ _ rest.2 some.0 some.2 in
    let pages = pages_some areas c.args.pid _ _ c.requires.whole some.2 in
    let its = begun_all areas c.requires.apart c.args.pid _ _ some.2 in
    let within = none_within areas c.requires.apart c.requires.whole c.args.pid _ _ pages its in
    let over = its c.loop-at.at (omega (arith, some.1, c.new-in-loop-at.ensures)) (omega (arith, up, pages)) in
    record {
      mapped = c.loop-at.invariant.mapped ∙ mapped_next areas c.args.pid c.loop-at.at c.args.end _ c.number-in-loop-at.result _ c.requires.apart (sym over) c.number-in-loop-at.ensures c.loop-at-test.true;
      reaches = none_reaches areas c.requires.apart c.requires.whole c.args.pid _ _ pages its c.number-in-loop-at.result c.number-in-loop-at.ensures;
      rest = (
        _,
        omega (arith, pages, c.number-in-loop-at.ensures),
        λ v low high. within v low (omega (arith, high, c.number-in-loop-at.ensures)),
        c.in-Some.ensures.rest areas rest.0 rest.3,
      );
    }
