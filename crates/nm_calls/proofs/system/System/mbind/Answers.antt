use Rattle.std.proofs.Common.{◌≡◌, ◌<◌, ◌+◌, ◌-◌, ◌*◌, ◌/◌, ◌⊎◌, ℕ, true, Some, refl, ap, subst, arith}
use Rattle.nm_types.specs.State.{State}
use Rattle.nm_model.specs.definitions.Effect.{set_range_policy}
use Rattle.nm_passes.specs.declared.binding.Binding.{Binding}
use Rattle.nm_requests.specs.Calls.{Mbind}
use Rattle.nm_calls.specs.definitions.Answers.{Failed}
use Rattle.nm_calls.specs.definitions.Systems.{SystemState, in_state}
use Rattle.nm_areas.specs.Splits.{HasSplit}
use Rattle.nm_calls.specs.definitions.Mbind.{mbind_runs, has_move}
use Rattle.nm_calls.specs.definitions.Memory.{MayAllocate}
use Rattle.nm_calls.specs.definitions.Does.{Does}
use Rattle.nm_calls.specs.views.Ends.{Binds}
use Rattle.nm_calls.specs.definitions.Mbind.{mbind_refusal}
use Rattle.nm_calls.specs.definitions.Outcome.{outcome}
use Rattle.nm_calls.proofs.Policies.Results.{binds_does, refuses_mbind}
use Rattle.nm_calls.proofs.Policies.NoBytes.{nothing_bound}
use Rattle.nm_calls.proofs.system.System.mbind.Goals as goal

pub returns-clause-done : goal.returns-clause-done
returns-clause-done g c =
    let x = c.args.request.now in
    let s = c.self.inside.machine in
    let limit = c.self.inside.run_limit in
    let new = c.bind.new.machine in
    let y : SystemState = record { state = s; run_limit = limit } in
    let call = Mbind x.caller x.addr x.len x.mode x.nodes x.flags in
    let set = λ (b : Binding). set_range_policy s b.pid b.first b.end b.policy in
    let bound = subst (λ (f : ℕ). Binds c.bind.result s (set c.in_ok-asked.binding) new c.in_ok-asked.binding (mbind_runs limit (set c.in_ok-asked.binding) c.in_ok-asked.binding f) f) c.in_ok-asked.ensures.flags c.bind.ensures.bound in
    let asked = subst (λ (b : Binding). Binds c.bind.result s (set b) new b (mbind_runs limit (set b) b x.flags) x.flags) c.in_ok-asked.ensures.binding bound in
    subst (λ (z : SystemState). Does (λ done. Failed 0) c.bind.result z (in_state y new) call) c.self.view_is
    (binds_does y x.caller x.addr x.len x.mode x.nodes x.flags c.bind.result new c.in_ok-asked.ensures.exact asked)

pub returns-in_err-asked-clause-done : goal.returns-in_err-asked-clause-done
returns-in_err-asked-clause-done g c = let x = c.args.request.now in refuses_mbind c.args.self.now x.caller x.addr x.len x.mode x.nodes x.flags c.from_residual.result c.in_err-asked.field-0.0 (subst (λ (z : SystemState). mbind_refusal z.state x.caller x.addr x.len x.mode x.nodes x.flags ≡ Some c.in_err-asked.field-0.0) c.self.view_is c.in_err-asked.ensures.exact) c.from_residual.ensures

pub returns-then-request-eq0-clause-done : goal.returns-then-request-eq0-clause-done
returns-then-request-eq0-clause-done g c =
    let x = c.args.request.now in
    let y : SystemState = record { state = c.self.inside.machine; run_limit = c.self.inside.run_limit } in
    subst (λ (z : SystemState). outcome z (Mbind x.caller x.addr x.len x.mode x.nodes x.flags) ≡ record { answer = Failed 0; system = z }) c.self.view_is
    (nothing_bound y x.caller x.addr x.mode x.nodes x.flags x.len c.if-request-eq0.true c.in_ok-asked.ensures.exact)

pub returns-clause-allocates : goal.returns-clause-allocates
returns-clause-allocates g c = λ runs policy_set is.
    let x = c.args.request.now in
    let s = c.self.inside.machine in
    let b = c.in_ok-asked.binding in
    let some : 0 < x.len = omega (arith, c.if-request-eq0.false) in
    let moved = subst (λ (f : ℕ). (has_move f ≡ true) ⊎ (HasSplit s.areas b.pid b.first ⊎ HasSplit s.areas b.pid b.end)) c.in_ok-asked.ensures.flags (c.bind.ensures.allocates runs policy_set is) in
    let needed = subst (λ (d : Binding). (has_move x.flags ≡ true) ⊎ (HasSplit s.areas d.pid d.first ⊎ HasSplit s.areas d.pid d.end)) c.in_ok-asked.ensures.binding moved in
    subst (λ (z : SystemState). MayAllocate z.state (Mbind x.caller x.addr x.len x.mode x.nodes x.flags)) c.self.view_is (some, needed)
