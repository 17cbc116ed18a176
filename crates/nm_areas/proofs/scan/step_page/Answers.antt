use Rattle.std.proofs.Common.{arith, inr}
use Rattle.nm_types.specs.declared.page.Page.{Page}
use Rattle.nm_areas.proofs.Rests.{page_before_first, page_other, page_next}
use Rattle.nm_areas.proofs.scan.step_page.Goals as goal
use Rattle.nm_areas.proofs.scan.step_page.Goals.{else-page-segment-via-then-page-segment+else-page-past, else-page-segment-via-else-page-segment}

pub returns-then-page-past-clause-first : goal.returns-then-page-past-clause-first
returns-then-page-past-clause-first g c pages at is i low high =
    let e : Page × g.row.V.Denot = (c.in_ok-page.page.now, c.in_ok-page.value.now) in
    page_before_first pages c.args.segment at c.args.rest.now is c.next.new.self e c.in_ok-page.ensures.steps i low (inr (c.if-page-segment.true, high))

pub returns-then-page-past-clause-rest : goal.returns-then-page-past-clause-rest
returns-then-page-past-clause-rest g c pages at is =
    let e : Page × g.row.V.Denot = (c.in_ok-page.page.now, c.in_ok-page.value.now) in
    page_next pages c.args.segment at c.args.rest.now is c.next.new.self e c.in_ok-page.ensures.steps c.if-page-segment.true

pub returns-else-page-segment-clause-none : goal.returns-else-page-segment-clause-none
returns-else-page-segment-clause-none g c pages at is i low high =
    let e : Page × g.row.V.Denot = (c.in_ok-page.page.now, c.in_ok-page.value.now) in
    elim c.else-page-segment.branch [
      | else-page-segment-via-then-page-segment+else-page-past w ↦
          page_before_first pages c.args.segment at c.args.rest.now is c.next.new.self e c.in_ok-page.ensures.steps i low (inr (w.if-page-segment.true, omega (arith, high, w.if-page-past.false)))
      | else-page-segment-via-else-page-segment w ↦ page_other pages c.args.segment at c.args.rest.now is c.next.new.self e c.in_ok-page.ensures.steps w.if-page-segment.false i low
    ]
