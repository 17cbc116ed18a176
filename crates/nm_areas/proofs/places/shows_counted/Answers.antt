use Rattle.std.proofs.Common.{refl, subst}
use Rattle.nm_types.specs.Map.{spot_cmp}
use Rattle.nm_types.proofs.Maps.{spot_cmp_total}
use Rattle.nm_model.specs.definitions.Areas.{HasIndices}
use Rattle.nm_areas.specs.Rests.{IsRest}
use Rattle.nm_model.specs.views.Table.{Table}
use Rattle.nm_model.proofs.areas.Parted.{All-among}
use Rattle.nm_model.proofs.areas.Overs.{get_among}
use Rattle.nm_model.proofs.areas.Painted.{exact_spot}
use Rattle.nm_areas.proofs.Rests.{rest_begins}
use Rattle.nm_areas.proofs.Tallied.{shown_begin, shown_next, shown_end, shown_there}
use Rattle.nm_areas.proofs.places.shows_counted.Goals as goal

pub loop-start-init : goal.loop-start-init
loop-start-init g c =
    let areas = c.args.table.now.areas in
    record {
      rest = (
        c.begin-begin.result,
        subst (λ (t : Table). IsRest spot_cmp t.areas (c.args.pid, c.begin-begin.result) c.range-rest.result) c.table.view_is
            (rest_begins spot_cmp_total (c.args.pid, c.begin-begin.result) exact_spot c.table.inside.areas.entries c.range-rest.result c.range-rest.ensures.ordered (c.range-rest.ensures.between tt)),
        shown_begin areas c.args.places.now.entries c.args.counts.now c.args.pid c.args.first c.args.end c.requires.apart c.begin-begin.result c.begin-begin.ensures.first,
      );
    }

pub area_shows_counted-requires-clause-range : goal.area_shows_counted-requires-clause-range
area_shows_counted-requires-clause-range g c = let rest = c.loop-start.invariant.rest in (c.in-Some.ensures.some c.args.table.now.areas rest.0 rest.1).1

pub area_shows_counted-requires-clause-indices : goal.area_shows_counted-requires-clause-indices
area_shows_counted-requires-clause-indices g c =
    let areas = c.args.table.now.areas in
    let rest = c.loop-start.invariant.rest in
    All-among HasIndices areas _ c.requires.indices (get_among areas _ _ (c.in-Some.ensures.some areas rest.0 rest.1).2)

pub returns-then-area_shows_counted-clause-shown : goal.returns-then-area_shows_counted-clause-shown
returns-then-area_shows_counted-clause-shown g c t =
    let areas = c.args.table.now.areas in
    let rest = c.loop-start.invariant.rest in
    let f = c.if-area_shows_counted.ensures.shown refl in
    (f.0, _, f.1, f.2, f.3, shown_there areas c.requires.apart c.args.pid _ f.0 _ (c.in-Some.ensures.some areas rest.0 rest.1).2 f.4 f.5, f.6, f.7)

pub loop-start-preserved : goal.loop-start-preserved
loop-start-preserved g c =
    let areas = c.args.table.now.areas in
    let rest = c.loop-start.invariant.rest in
    record {
      rest = (
        _,
        c.in-Some.ensures.rest areas rest.0 rest.1,
        shown_next areas c.args.places.now.entries c.args.counts.now c.args.pid c.args.first c.args.end c.requires.apart rest.0 rest.2 _ _ c.requires.whole (c.in-Some.ensures.first areas rest.0 rest.1)
            (c.in-Some.ensures.some areas rest.0 rest.1).2 (c.if-area_shows_counted.ensures.none refl),
      );
    }

pub returns-clause-none : goal.returns-clause-none
returns-clause-none g c t =
    let areas = c.args.table.now.areas in
    let rest = c.loop-start.invariant.rest in
    shown_end areas c.args.places.now.entries c.args.counts.now c.args.pid c.args.first c.args.end c.requires.apart rest.0 rest.2 (c.in_default.ensures.none areas rest.0 rest.1)
