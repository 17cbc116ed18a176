use Rattle.std.proofs.Common.{arith, inr}
use Rattle.nm_types.specs.State.{PlacedArea}
use Rattle.nm_model.proofs.areas.Painted.{past_first, past_not}
use Rattle.nm_areas.proofs.Rests.{spot_before_first, spot_other, spot_next}
use Rattle.nm_areas.proofs.scan.step_area.Goals as goal
use Rattle.nm_areas.proofs.scan.step_area.Goals.{else-eq-via-then-eq+else-number, else-eq-via-else-eq}

pub returns-then-number-clause-first : goal.returns-then-number-clause-first
returns-then-number-clause-first c areas at is v low high =
    let e : PlacedArea = (c.in_ok-owner.field-0-0.now, c.in_ok-owner.area.now) in
    spot_before_first areas c.args.pid at c.args.rest.now is c.next.new.self e c.in_ok-owner.ensures.steps v low (inr (past_first e.0.0 c.args.pid c.if-eq.ensures, high))

pub returns-then-number-clause-rest : goal.returns-then-number-clause-rest
returns-then-number-clause-rest c areas at is =
    let e : PlacedArea = (c.in_ok-owner.field-0-0.now, c.in_ok-owner.area.now) in
    spot_next areas c.args.pid at c.args.rest.now is c.next.new.self e c.in_ok-owner.ensures.steps (past_first e.0.0 c.args.pid c.if-eq.ensures)

pub returns-else-eq-clause-none : goal.returns-else-eq-clause-none
returns-else-eq-clause-none c areas at is v low high =
    let e : PlacedArea = (c.in_ok-owner.field-0-0.now, c.in_ok-owner.area.now) in
    elim c.else-eq.branch [
      | else-eq-via-then-eq+else-number w ↦
          spot_before_first areas c.args.pid at c.args.rest.now is c.next.new.self e c.in_ok-owner.ensures.steps v low
          (inr (past_first e.0.0 c.args.pid w.if-eq.ensures, omega (arith, high, w.if-number.false, w.number.ensures, w.number-then-eq.ensures)))
      | else-eq-via-else-eq w ↦ spot_other areas c.args.pid at c.args.rest.now is c.next.new.self e c.in_ok-owner.ensures.steps (past_not e.0.0 c.args.pid w.if-eq.ensures) v low
    ]
