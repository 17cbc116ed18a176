use Rattle.std.proofs.Common.{ℕ, List, map, ap, subst, refl, arith, Result, Err, ◌≡◌, None, ◌∙◌}
use Rattle.std.proofs.lemmas.List.{map-append}
use Rattle.std.specs.Option.{ok_or}
use Rattle.nm_requests.specs.Calls.{Call}
use Rattle.nm_steps.specs.declared.step_error.StepError.TheVariants.{Bad}
use Rattle.nm_steps.specs.declared.trace_error.TraceError.{TraceError}
use Rattle.nm_steps.specs.declared.trace_error.TraceError.TheVariants.{BadStep}
use Rattle.nm_steps.specs.Faults.{first_bad}
use Rattle.nm_steps.specs.Form.{step_of}
use Rattle.nm_steps.specs.Gives.{FailsStep}
use Rattle.nm_steps.specs.Lists.{items_seen}
use Rattle.nm_requests.specs.Views.{call_of}
use Rattle.nm_steps.specs.Memory.{step_allocates}
use Rattle.nm_steps.proofs.Each.{goes_on, ends, is_done, is_here, is_later, begins_by}
use Rattle.nm_steps.proofs.Memory.{is_read, is_asked}
use Rattle.nm_steps.proofs.reading.calls_of.Goals as goal

pub loop-k-preserved : goal.loop-k-preserved
loop-k-preserved g c = record {
  read = rw (c.in_ok-put.ensures.put, map-append)
      (goes_on (step_of c.args.limit) (map call_of c.loop-k.calls.items) g.V.JsonValue.as_data c.args.values.now c.loop-k.k c.index-values-k.result _ c.loop-k-test.true c.index-values-k.is (call_of c.in-Ok.call) c.in-Ok.ensures.call c.loop-k.invariant.read);
  place = is_later c.args.limit g.V.JsonValue.as_data c.args.values.now c.loop-k.k c.index-values-k.result c.loop-k-test.true c.index-values-k.is (call_of c.in-Ok.call) c.in-Ok.ensures.call _ c.loop-k.invariant.place;
  first = λ more. begins_by (step_allocates c.args.limit) g.V.JsonValue.as_data c.args.values.now c.loop-k.k c.index-values-k.result c.loop-k-test.true c.index-values-k.is (is_read _ _ _ c.in-Ok.ensures.call) c.loop-k.invariant.first;
}

pub returns-in-Err-Memory-clause-first : goal.returns-in-Err-Memory-clause-first
returns-in-Err-Memory-clause-first g c = λ memory.
    begins_by (step_allocates c.args.limit) g.V.JsonValue.as_data c.args.values.now c.loop-k.k c.index-values-k.result c.loop-k-test.true c.index-values-k.is (is_asked _ _ (c.in-Err-Memory.ensures.allocates (ap Err c.in-Err-Memory.field-0-is))) c.loop-k.invariant.first

pub returns-in_err-put-clause-first : goal.returns-in_err-put-clause-first
returns-in_err-put-clause-first g c = λ memory.
    begins_by (step_allocates c.args.limit) g.V.JsonValue.as_data c.args.values.now c.loop-k.k c.index-values-k.result c.loop-k-test.true c.index-values-k.is (is_read _ _ _ c.in-Ok.ensures.call) c.loop-k.invariant.first

pub returns-in-Err-Bad-clause-calls : goal.returns-in-Err-Bad-clause-calls
returns-in-Err-Bad-clause-calls g c =
    let value = c.index-values-k.result in
    let bad : step_of c.args.limit (g.V.JsonValue.as_data value) ≡ None =
    subst (λ e. FailsStep e (step_of c.args.limit (g.V.JsonValue.as_data value))) c.in-Err-Bad.field-0-is c.in-Err-Bad.ensures.call in
    let none = ends (step_of c.args.limit) (map call_of c.loop-k.calls.items) g.V.JsonValue.as_data c.args.values.now c.loop-k.k value _ c.loop-k-test.true c.index-values-k.is Bad bad c.loop-k.invariant.read in
    let here = is_here c.args.limit g.V.JsonValue.as_data c.args.values.now c.loop-k.k value c.loop-k-test.true c.index-values-k.is bad _ c.loop-k.invariant.place in
    let fault : ℕ → Result (List Call) TraceError = λ n. Err (BadStep n) in
    ap (λ o. ok_or o (BadStep (first_bad c.args.limit (items_seen g.V.JsonValue.as_data c.args.values.now)))) none ∙ ap fault here

pub returns-in-Err-Memory-clause-calls : goal.returns-in-Err-Memory-clause-calls
returns-in-Err-Memory-clause-calls g c = refl

pub returns-clause-calls : goal.returns-clause-calls
returns-clause-calls g c =
    ap (λ o. ok_or o (BadStep (first_bad c.args.limit (items_seen g.V.JsonValue.as_data c.args.values.now))))
    (is_done (step_of c.args.limit) (map call_of c.loop-k.calls.items) g.V.JsonValue.as_data c.args.values.now c.loop-k.k _ (omega (arith, c.loop-k-test.false)) c.loop-k.invariant.read)
