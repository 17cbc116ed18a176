use Rattle.std.proofs.Common.{arith}
use Rattle.nm_steps.specs.Form.{u64_of}
use Rattle.nm_steps.proofs.Each.{goes_on, ends, is_done, starts_by}
use Rattle.nm_steps.proofs.Memory.{fails_on, is_there}
use Rattle.nm_steps.proofs.keys.numbers_of.Goals as goal

pub returns-in_err-number-clause-value : goal.returns-in_err-number-clause-value
returns-in_err-number-clause-value g c =
    fails_on _ c.from_residual.result _ _ c.from_residual.ensures
    (ends u64_of c.loop-value.numbers.items g.V.JsonValue.as_data c.args.values.now c.loop-value.value-index c.value-item.result _ c.loop-value-test.true c.value-item.is _ c.in_err-number.ensures.value c.loop-value.invariant.read)

pub returns-in_err-push-clause-first : goal.returns-in_err-push-clause-first
returns-in_err-push-clause-first g c = λ is.
    starts_by u64_of g.V.JsonValue.as_data c.args.values.now c.loop-value.value-index c.value-item.result c.loop-value-test.true c.value-item.is (is_there _ _ c.in_ok-number.ensures.value) c.loop-value.invariant.first

pub loop-value-preserved : goal.loop-value-preserved
loop-value-preserved g c = record {
  read = rw c.in_ok-push.ensures.items (goes_on u64_of c.loop-value.numbers.items g.V.JsonValue.as_data c.args.values.now c.loop-value.value-index c.value-item.result _ c.loop-value-test.true c.value-item.is c.in_ok-number.number c.in_ok-number.ensures.value c.loop-value.invariant.read);
  first = λ more. starts_by u64_of g.V.JsonValue.as_data c.args.values.now c.loop-value.value-index c.value-item.result c.loop-value-test.true c.value-item.is (is_there _ _ c.in_ok-number.ensures.value) c.loop-value.invariant.first;
}

pub returns-clause-value : goal.returns-clause-value
returns-clause-value g c = is_done u64_of c.loop-value.numbers.items g.V.JsonValue.as_data c.args.values.now c.loop-value.value-index _ (omega (arith, c.loop-value-test.false)) c.loop-value.invariant.read
