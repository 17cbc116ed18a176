use Rattle.std.proofs.Common.{arith}
use Rattle.std.proofs.lemmas.List.{map-append}
use Rattle.nm_model.specs.views.Asked.{access_shown}
use Rattle.nm_requests.specs.Views.{shown_during}
use Rattle.nm_steps.specs.Form.{during_of}
use Rattle.nm_steps.specs.Memory.{flight_allocates}
use Rattle.nm_steps.proofs.Each.{goes_on, ends, is_done, begins_by}
use Rattle.nm_steps.proofs.Memory.{handed_on, fails_on, is_asked_in, is_read}
use Rattle.nm_steps.proofs.parsing.flights_of.Goals as goal

pub loop-value-preserved : goal.loop-value-preserved
loop-value-preserved g c =
    let flight = c.in_ok-flight.flight in record {
      read = rw (c.in_ok-put.ensures.put, map-append)
          (goes_on (during_of c.args.runs) (shown_during c.loop-value.flights.items) g.V.JsonValue.as_data c.args.values.now c.loop-value.value-index c.value-item.result _ c.loop-value-test.true c.value-item.is (flight.run, access_shown flight.access) c.in_ok-flight.ensures.flight c.loop-value.invariant.read);
      first = λ more. begins_by (flight_allocates c.args.runs) g.V.JsonValue.as_data c.args.values.now c.loop-value.value-index c.value-item.result c.loop-value-test.true c.value-item.is (is_read _ _ _ c.in_ok-flight.ensures.flight) c.loop-value.invariant.first;
    }

pub returns-in_err-put-clause-allocates : goal.returns-in_err-put-clause-allocates
returns-in_err-put-clause-allocates g c = λ memory.
    begins_by (flight_allocates c.args.runs) g.V.JsonValue.as_data c.args.values.now c.loop-value.value-index c.value-item.result c.loop-value-test.true c.value-item.is (is_read _ _ _ c.in_ok-flight.ensures.flight) c.loop-value.invariant.first

pub returns-in_err-flight-clause-allocates : goal.returns-in_err-flight-clause-allocates
returns-in_err-flight-clause-allocates g c = λ is.
    let memory = handed_on c.from_residual.result c.in_flight.result _ _ c.from_residual.ensures c.in_err-flight.was is in
    begins_by (flight_allocates c.args.runs) g.V.JsonValue.as_data c.args.values.now c.loop-value.value-index c.value-item.result c.loop-value-test.true c.value-item.is
    (is_asked_in _ _ _ (c.in_flight.ensures.run memory) (c.in_flight.ensures.allocates memory)) c.loop-value.invariant.first

pub returns-in_err-flight-clause-flights : goal.returns-in_err-flight-clause-flights
returns-in_err-flight-clause-flights g c =
    fails_on _ c.from_residual.result _ _ c.from_residual.ensures
    (ends (during_of c.args.runs) (shown_during c.loop-value.flights.items) g.V.JsonValue.as_data c.args.values.now c.loop-value.value-index c.value-item.result _ c.loop-value-test.true c.value-item.is _ c.in_err-flight.ensures.flight c.loop-value.invariant.read)

pub returns-clause-flights : goal.returns-clause-flights
returns-clause-flights g c =
    is_done (during_of c.args.runs) (shown_during c.loop-value.flights.items) g.V.JsonValue.as_data c.args.values.now c.loop-value.value-index _ (omega (arith, c.loop-value-test.false)) c.loop-value.invariant.read
