use Rattle.std.proofs.Common.{◌≡◌, ◌+◌, ◌-◌, ◌<◌, ◌++◌, arith, refl, ap, ◌∙◌}
use Rattle.std.specs.List.{fold}
use Rattle.nm_areas.specs.Coverage.{of_shared, ends_at, covers_at}
use Rattle.nm_model.specs.definitions.Areas.{all_lost, page_in, place_left}
use Rattle.nm_model.specs.definitions.Areas.{pages_from}
use Rattle.nm_areas.proofs.Lost.{freed_end, left_end}
use Rattle.nm_areas.proofs.Masked.{masked_as, shared_flat}
use Rattle.nm_areas.proofs.Stretches.{free_freed, free_places, skip_freed, skip_places}
use Rattle.nm_areas.proofs.unmap.lose.Goals as goal

pub loop-found-init : goal.loop-found-init
loop-found-init g c =
    let x = c.args.area in
    let size : (x.page.index + x.pages) - x.page.index ≡ x.pages = omega arith in
    record {
      freed = λ segments left cover shared. ap (λ n. c.args.freed.now.items ++ all_lost left c.args.places.now.entries (pages_from x.page.segment x.page.index n)) size;
      places = λ segments left cover shared. ap (λ n. fold (place_left left) c.args.places.now.entries (pages_from x.page.segment x.page.index n)) size;
      room = omega (arith, c.requires.room);
      counted = refl;
      few = omega arith;
      same = refl;
      up = omega arith;
    }

pub loop-found-preserved-then-count_at-eq0 : goal.loop-found-preserved-then-count_at-eq0
loop-found-preserved-then-count_at-eq0 g c =
    let m = c.args.steps.now in
    let s = c.args.area.page.segment in
    let past = c.args.area.page.index + c.args.area.pages in
    let now = c.loop-found.invariant in
    let some = c.in-Some.ensures.some in
    let lost = c.lose_page.ensures in
    record {
      freed = λ segments left cover shared.
          free_freed m segments left cover s shared c.loop-found.at c.in-Some.found past some.0 some.1 c.loop-found.places.entries c.in-Some.ensures.first c.loop-found.freed.items c.count_at.result
          (c.count_at.ensures (of_shared segments (ends_at left)) (of_shared segments (covers_at left)) cover (shared_flat segments left) ∙ masked_as segments (covers_at left) (page_in s c.in-Some.found) shared)
          c.if-count_at-eq0.true c.lose_page.new.places.entries lost.places c.lose_page.new.freed.items _ lost.freed (now.freed segments left cover shared);
      places = λ segments left cover shared.
          free_places m segments left cover s shared c.loop-found.at c.in-Some.found past some.0 some.1 c.loop-found.places.entries c.in-Some.ensures.first c.loop-found.freed.items c.count_at.result
          (c.count_at.ensures (of_shared segments (ends_at left)) (of_shared segments (covers_at left)) cover (shared_flat segments left) ∙ masked_as segments (covers_at left) (page_in s c.in-Some.found) shared)
          c.if-count_at-eq0.true c.lose_page.new.places.entries lost.places _ (now.places segments left cover shared);
      room = omega (arith, now.room, lost.counted, lost.few, lost.room, some.0, some.1);
      counted = lost.counted ∙ now.counted;
      few = omega (arith, now.few, lost.few, some.0, some.1);
      same = lost.room ∙ now.same;
      up = omega (arith, some.1);
    }

pub loop-found-preserved : goal.loop-found-preserved
loop-found-preserved g c =
    let m = c.args.steps.now in
    let s = c.args.area.page.segment in
    let past = c.args.area.page.index + c.args.area.pages in
    let now = c.loop-found.invariant in
    let some = c.in-Some.ensures.some in
    let next = c.next_from-at.ensures in
    let up : c.in-Some.found < c.next_from-at.result = (let low = next.low (omega (arith, some.1)) in omega (arith, low)) in
    record {
      freed = λ segments left cover shared.
          skip_freed m segments left cover s shared c.loop-found.at c.in-Some.found past some.0 some.1 c.loop-found.places.entries c.in-Some.ensures.first c.loop-found.freed.items c.count_at.result
          (c.count_at.ensures (of_shared segments (ends_at left)) (of_shared segments (covers_at left)) cover (shared_flat segments left) ∙ masked_as segments (covers_at left) (page_in s c.in-Some.found) shared)
          c.if-count_at-eq0.false c.next_from-at.result up next.high (λ i from to. next.none i (omega (arith, from)) to) _ (now.freed segments left cover shared);
      places = λ segments left cover shared.
          skip_places m segments left cover s shared c.loop-found.at c.in-Some.found past some.0 some.1 c.loop-found.places.entries c.in-Some.ensures.first c.loop-found.freed.items c.count_at.result
          (c.count_at.ensures (of_shared segments (ends_at left)) (of_shared segments (covers_at left)) cover (shared_flat segments left) ∙ masked_as segments (covers_at left) (page_in s c.in-Some.found) shared)
          c.if-count_at-eq0.false c.next_from-at.result up next.high (λ i from to. next.none i (omega (arith, from)) to) _ (now.places segments left cover shared);
      room = omega (arith, now.room, some.0, up, next.high);
      counted = now.counted;
      few = omega (arith, now.few, some.0, up, next.high);
      same = now.same;
      up = next.high;
    }

pub returns-clause-freed : goal.returns-clause-freed
returns-clause-freed g c segments left cover shared =
    freed_end left c.loop-found.places.entries c.args.area.page.segment c.loop-found.at (c.args.area.page.index + c.args.area.pages) c.loop-found.invariant.up c.in_default.ensures.none c.loop-found.freed.items _
    (c.loop-found.invariant.freed segments left cover shared)

pub returns-clause-places : goal.returns-clause-places
returns-clause-places g c segments left cover shared =
    left_end left c.loop-found.places.entries c.args.area.page.segment c.loop-found.at (c.args.area.page.index + c.args.area.pages) c.loop-found.invariant.up c.in_default.ensures.none _
    (c.loop-found.invariant.places segments left cover shared)
