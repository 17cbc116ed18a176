use Rattle.std.proofs.Common.{arith, map}
use Rattle.std.proofs.lemmas.List.{map-append}
use Rattle.nm_steps.specs.Form.{row_of}
use Rattle.nm_steps.specs.Memory.{row_allocates}
use Rattle.nm_steps.proofs.Each.{goes_on, ends, is_done, begins_by}
use Rattle.nm_steps.proofs.Memory.{handed_on, fails_on, is_read, or_right}
use Rattle.nm_steps.proofs.reading.rows_of.Goals as goal

pub returns-in_err-row-clause-rows : goal.returns-in_err-row-clause-rows
returns-in_err-row-clause-rows g c =
    fails_on _ c.from_residual.result _ _ c.from_residual.ensures
    (ends row_of (map (λ row. row.items) c.loop-value.rows.items) g.V.JsonValue.as_data c.args.values.now c.loop-value.value-index c.value-item.result _ c.loop-value-test.true c.value-item.is _ c.in_err-row.ensures.row c.loop-value.invariant.read)

pub returns-in_err-row-clause-first : goal.returns-in_err-row-clause-first
returns-in_err-row-clause-first g c = λ is.
    let memory = handed_on c.from_residual.result c.row_of.result _ _ c.from_residual.ensures c.in_err-row.was is in
    begins_by row_allocates g.V.JsonValue.as_data c.args.values.now c.loop-value.value-index c.value-item.result c.loop-value-test.true c.value-item.is (or_right _ _ (c.row_of.ensures.first memory)) c.loop-value.invariant.first

pub returns-in_err-push-clause-first : goal.returns-in_err-push-clause-first
returns-in_err-push-clause-first g c = λ is.
    begins_by row_allocates g.V.JsonValue.as_data c.args.values.now c.loop-value.value-index c.value-item.result c.loop-value-test.true c.value-item.is (is_read _ _ _ c.in_ok-row.ensures.row) c.loop-value.invariant.first

pub loop-value-preserved : goal.loop-value-preserved
loop-value-preserved g c = record {
  read = rw (c.in_ok-push.ensures.items, map-append) (goes_on row_of (map (λ row. row.items) c.loop-value.rows.items) g.V.JsonValue.as_data c.args.values.now c.loop-value.value-index c.value-item.result _ c.loop-value-test.true c.value-item.is c.in_ok-row.row.items c.in_ok-row.ensures.row c.loop-value.invariant.read);
  first = λ more. begins_by row_allocates g.V.JsonValue.as_data c.args.values.now c.loop-value.value-index c.value-item.result c.loop-value-test.true c.value-item.is (is_read _ _ _ c.in_ok-row.ensures.row) c.loop-value.invariant.first;
}

pub returns-clause-rows : goal.returns-clause-rows
returns-clause-rows g c = is_done row_of (map (λ row. row.items) c.loop-value.rows.items) g.V.JsonValue.as_data c.args.values.now c.loop-value.value-index _ (omega (arith, c.loop-value-test.false)) c.loop-value.invariant.read
