use Rattle.std.proofs.Common.{◌∙◌, Err, ap, refl, sym, inl, inr}
use Rattle.json.specs.Scratch.{room}
use Rattle.nm_steps.specs.Tree.{view}
use Rattle.nm_trace.specs.definitions.Session.{SessionState}
use Rattle.nm_requests.specs.Views.{call_of}
use Rattle.nm_calls.specs.definitions.Systems.{SystemState}
use Rattle.nm_streams.proofs.Waits.{all_waits}
use Rattle.nm_steps.proofs.Utf8.{text_of_read}
use Rattle.nm_trace.proofs.Sessions.{outcome_limit, asked_is, stopped, stepped, value_memory}
use Rattle.nm_trace.proofs.session.Session.step.Goals as goal

pub returns-in_default-clause-steps : goal.returns-in_default-clause-steps
returns-in_default-clause-steps g c =
    let before : SessionState = record { system = c.self.inside.system; steps = c.self.inside.steps } in
    let call = call_of c.in_ok-call.call in
    let is = asked_is before c.args.bytes.now (view c.in-Ok.value) c.self.inside.run_limit call c.self.invariant.1 c.in-Ok.ensures.value c.in_ok-call.ensures.call in
    stopped before c.args.self.now c.make_step.new.system c.args.bytes.now call c.self.view_is is (inl c.in_default.ensures.lines.0)

pub invariant_of-self-then-is_broken : goal.invariant_of-self-then-is_broken
invariant_of-self-then-is_broken g c =
    let call = call_of c.in_ok-call.call in
    (c.self.invariant.0, ap (λ (u : SystemState). u.run_limit) c.in-Ok-make_step.ensures.lines.1 ∙ outcome_limit c.self.inside.system call ∙ c.self.invariant.1)

pub returns-then-is_broken-clause-steps : goal.returns-then-is_broken-clause-steps
returns-then-is_broken-clause-steps g c =
    let before : SessionState = record { system = c.self.inside.system; steps = c.self.inside.steps } in
    let call = call_of c.in_ok-call.call in
    let is = asked_is before c.args.bytes.now (view c.in-Ok.value) c.self.inside.run_limit call c.self.invariant.1 c.in-Ok.ensures.value c.in_ok-call.ensures.call in
    stopped before c.args.self.now c.make_step.new.system c.args.bytes.now call c.self.view_is is (inr c.in-Ok-make_step.ensures.lines.1)

pub invariant_of-self-2 : goal.invariant_of-self-2
invariant_of-self-2 g c =
    let call = call_of c.in_ok-call.call in
    (c.self.invariant.0, ap (λ (u : SystemState). u.run_limit) c.in-Ok-make_step.ensures.lines.1 ∙ outcome_limit c.self.inside.system call ∙ c.self.invariant.1)

pub returns-clause-steps : goal.returns-clause-steps
returns-clause-steps g c =
    let before : SessionState = record { system = c.self.inside.system; steps = c.self.inside.steps } in
    let call = call_of c.in_ok-call.call in
    let is = asked_is before c.args.bytes.now (view c.in-Ok.value) c.self.inside.run_limit call c.self.invariant.1 c.in-Ok.ensures.value c.in_ok-call.ensures.call in
    let waits = all_waits _ _ _ _ _ _ _ (λ u. refl) c.new-block.ensures.waiting c.new-block.ensures.whole (sym c.is_broken.ensures ∙ c.if-is_broken.false) c.in-Ok-make_step.ensures.lines.0 in
    stepped before c.args.self.now c.make_step.new.system c.args.bytes.now c.into_waiting.result.items call c.self.view_is is (c.into_waiting.ensures ∙ waits) c.in-Ok-make_step.ensures.lines.1

pub returns-in-Err-HostMemory-clause-allocates : goal.returns-in-Err-HostMemory-clause-allocates
returns-in-Err-HostMemory-clause-allocates g c = λ _.
    value_memory (room c.new-scratch.result) _ c.args.bytes.now _ c.in-Err-HostMemory.field-0-is c.in-Err-HostMemory.ensures.fault (λ memory. c.in-Err-HostMemory.ensures.allocates (ap Err memory))

pub returns-in_err-call-clause-allocates : goal.returns-in_err-call-clause-allocates
returns-in_err-call-clause-allocates g c = λ _. text_of_read c.args.bytes.now _ c.in-Ok.ensures.value

pub returns-then-step-clause-allocates : goal.returns-then-step-clause-allocates
returns-then-step-clause-allocates g c = λ _. text_of_read c.args.bytes.now _ c.in-Ok.ensures.value

pub returns-in_default-clause-allocates : goal.returns-in_default-clause-allocates
returns-in_default-clause-allocates g c = λ _. text_of_read c.args.bytes.now _ c.in-Ok.ensures.value

pub returns-then-is_broken-clause-allocates : goal.returns-then-is_broken-clause-allocates
returns-then-is_broken-clause-allocates g c = λ _. text_of_read c.args.bytes.now _ c.in-Ok.ensures.value
