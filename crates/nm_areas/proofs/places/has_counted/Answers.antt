use Rattle.std.proofs.Common.{arith}
use Rattle.nm_types.proofs.Maps.{page_cmp_total, exact_page}
use Rattle.nm_model.specs.definitions.Areas.{page_in}
use Rattle.nm_areas.proofs.Rests.{rest_begins}
use Rattle.nm_areas.proofs.Tallied.{tallied_gap, tallied_one, tallied_there, count_zero}
use Rattle.nm_areas.proofs.places.has_counted.Goals as goal

pub loop-frame-init : goal.loop-frame-init
loop-frame-init g c = record {
  rest = (
    c.args.at,
    omega arith,
    rest_begins page_cmp_total (page_in c.args.segment c.args.at) exact_page c.args.places.now.entries c.range-rest.result c.range-rest.ensures.ordered (c.range-rest.ensures.between tt),
    λ i f low high last there. absurd (omega (arith, low, high)),
  );
}

pub returns-then-is_counted-clause-shown : goal.returns-then-is_counted-clause-shown
returns-then-is_counted-clause-shown g c t =
    let rest = c.loop-frame.invariant.rest in
    tallied_there c.args.places.now.entries c.args.counts.now c.args.segment c.args.at rest.0 c.args.past _ _ rest.1 (c.in-Some.ensures.some c.args.places.now.entries rest.0 rest.2) c.if-is_counted.ensures

pub loop-frame-preserved : goal.loop-frame-preserved
loop-frame-preserved g c =
    let rest = c.loop-frame.invariant.rest in
    let some = c.in-Some.ensures.some c.args.places.now.entries rest.0 rest.2 in
    record {
      rest = (
        _,
        omega (arith, some.0, rest.1),
        c.in-Some.ensures.rest c.args.places.now.entries rest.0 rest.2,
        tallied_one c.args.places.now.entries c.args.counts.now c.args.segment c.args.at rest.0 c.args.past rest.3 _ _ (c.in-Some.ensures.first c.args.places.now.entries rest.0 rest.2) some.2 (count_zero _ c.if-is_counted.ensures),
      );
    }

pub returns-clause-none : goal.returns-clause-none
returns-clause-none g c t i frame low high there =
    let rest = c.loop-frame.invariant.rest in
    tallied_gap c.args.places.now.entries c.args.counts.now c.args.segment c.args.at rest.0 c.args.past rest.3 c.args.past (c.in_default.ensures.none c.args.places.now.entries rest.0 rest.2) i frame low high high there
