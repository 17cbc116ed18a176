use Rattle.std.proofs.Common.{◌≡◌, List, [], Ok, Err, sym, subst}
use Rattle.nm_model.specs.definitions.Cut.{Request}
use Rattle.nm_requests.specs.Calls.{MigratePages}
use Rattle.nm_calls.specs.definitions.Answers.{Failed}
use Rattle.nm_calls.specs.definitions.Does.{Does}
use Rattle.nm_passes.specs.definitions.Moves.{Moves}
use Rattle.nm_calls.specs.definitions.Outcome.{outcome, refusal_of}
use Rattle.nm_calls.specs.definitions.Systems.{SystemState, in_state}
use Rattle.nm_calls.proofs.Outcomes.{refuses_by, error_does, migrates_does}
use Rattle.nm_calls.proofs.system.System.migrate_pages.Goals as goal

pub returns-in_err-what : goal.returns-in_err-what
unfolding refusal_of
returns-in_err-what g c =
    let x = c.args.request.now in
    let s = c.self.inside.machine in
    let y : SystemState = record { state = c.self.inside.machine; run_limit = c.self.inside.run_limit } in
    let call = MigratePages x.caller x.pid x.old x.new in
    subst (λ (z : SystemState). Does (λ n. Failed n) c.from_residual.result z z call) c.self.view_is
    (refuses_by _ y call c.from_residual.result c.in_err-what.field-0.0 c.in_err-what.ensures.exact c.from_residual.ensures)

pub invariant_of-self : goal.invariant_of-self
invariant_of-self g c = c.self.invariant

pub returns-in_err-moved : goal.returns-in_err-moved
returns-in_err-moved g c =
    let x = c.args.request.now in
    let s = c.self.inside.machine in
    let y : SystemState = record { state = c.self.inside.machine; run_limit = c.self.inside.run_limit } in
    let call = MigratePages x.caller x.pid x.old x.new in
    let new = c.migrate.new.machine in
    let asked = sym c.in_ok-what.ensures.list in
    let e = c.in_err-moved.field-0.0 in
    let moves = subst (λ (es : List Request). Moves {A = g.row.A.Denot} (Err e) s new y.run_limit es []) asked c.in_err-moved.ensures in
    subst (λ (z : SystemState). Does (λ n. Failed n) c.from_residual-in_err-moved.result z (in_state y new) call) c.self.view_is
    (error_does _ y (in_state y new) call e c.from_residual-in_err-moved.result (migrates_does {A = g.row.A.Denot} y x.caller x.pid x.old x.new (Err e) new c.in_ok-what.ensures.exact moves) c.from_residual-in_err-moved.ensures)

pub invariant_of-self-2 : goal.invariant_of-self-2
invariant_of-self-2 g c = c.self.invariant

pub returns : goal.returns
returns g c =
    let x = c.args.request.now in
    let s = c.self.inside.machine in
    let y : SystemState = record { state = c.self.inside.machine; run_limit = c.self.inside.run_limit } in
    let call = MigratePages x.caller x.pid x.old x.new in
    let new = c.migrate.new.machine in
    let asked = sym c.in_ok-what.ensures.list in
    let moves = subst (λ (es : List Request). Moves (Ok c.in_ok-moved.moved) s new y.run_limit es []) asked c.in_ok-moved.ensures in
    subst (λ (z : SystemState). outcome z call ≡ record { answer = Failed c.in_ok-moved.moved.failed; system = in_state y new }) c.self.view_is
    (migrates_does y x.caller x.pid x.old x.new (Ok c.in_ok-moved.moved) new c.in_ok-what.ensures.exact moves)
