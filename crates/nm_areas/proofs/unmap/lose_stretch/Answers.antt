use Rattle.std.proofs.Common.{[], arith, ◌∙◌}
use Rattle.nm_areas.proofs.Lost.{freed_next, left_next, freed_end, left_end}
use Rattle.nm_areas.proofs.unmap.lose_stretch.Goals as goal

pub loop-index-preserved : goal.loop-index-preserved
loop-index-preserved g c =
    let some = c.in-Some.ensures.some in
    record {
      freed = freed_next [] c.loop-index.places.entries _ c.args.segment c.loop-index.at c.in-Some.index c.args.past some.0 some.1 c.in-Some.ensures.first c.lose_page.ensures.places c.loop-index.freed.items _ _ c.lose_page.ensures.freed c.loop-index.invariant.freed;
      places = left_next [] c.loop-index.places.entries _ c.args.segment c.loop-index.at c.in-Some.index c.args.past some.0 some.1 c.in-Some.ensures.first c.lose_page.ensures.places _ c.loop-index.invariant.places;
      room = omega (arith, c.loop-index.invariant.room, c.lose_page.ensures.counted, c.lose_page.ensures.few, c.lose_page.ensures.room, some.0, some.1);
      counted = c.lose_page.ensures.counted ∙ c.loop-index.invariant.counted;
      few = omega (arith, c.loop-index.invariant.few, c.lose_page.ensures.few, some.0, some.1);
      same = c.lose_page.ensures.room ∙ c.loop-index.invariant.same;
      low = omega (arith, c.loop-index.invariant.low, some.0);
      up = omega (arith, some.1);
    }

pub returns-clause-places : goal.returns-clause-places
returns-clause-places g c =
    left_end [] c.loop-index.places.entries c.args.segment c.loop-index.at c.args.past c.loop-index.invariant.up c.in_default.ensures.none _ c.loop-index.invariant.places

pub returns-clause-freed : goal.returns-clause-freed
returns-clause-freed g c =
    freed_end [] c.loop-index.places.entries c.args.segment c.loop-index.at c.args.past c.loop-index.invariant.up c.in_default.ensures.none c.loop-index.freed.items _ c.loop-index.invariant.freed
