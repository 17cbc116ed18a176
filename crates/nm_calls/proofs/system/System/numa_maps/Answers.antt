use Rattle.std.proofs.Common.{◌≡◌, ℕ, ◌<◌, true, false, not, List, length, ap, sym, subst, ◌∙◌}
use Rattle.std.specs.Prelude.{None}
use Rattle.std.specs.Option.{option_map}
use Rattle.std.specs.Ordering.{nat_cmp}
use Rattle.nm_types.specs.Map.{get}
use Rattle.nm_types.specs.declared.errno.Errno.TheVariants.{Esrch}
use Rattle.nm_areas.specs.Lines.{lines_of}
use Rattle.nm_areas.specs.declared.lines.Area.{Area}
use Rattle.nm_model.specs.definitions.Areas.{Mapping}
use Rattle.nm_model.specs.definitions.Effect.{info_of}
use Rattle.nm_spaces.specs.views.AddressSpaces.{AddressSpacesView}
use Rattle.nm_requests.specs.Calls.{NumaMaps}
use Rattle.nm_calls.specs.definitions.Answers.{Refusal, Lines}
use Rattle.nm_calls.specs.definitions.Does.{Does}
use Rattle.nm_calls.specs.definitions.Maps.{lines_shown}
use Rattle.nm_calls.specs.definitions.Outcome.{outcome, refusal_of, refused_at_once, end_of_call}
use Rattle.nm_calls.specs.definitions.Systems.{SystemState}
use Rattle.nm_calls.proofs.Lines.Tallies.{lines_end, maps_are}
use Rattle.nm_calls.proofs.Outcomes.{answers, refuses, unlisted, out_at_once}
use Rattle.nm_calls.proofs.system.System.numa_maps.Given.{Over}
use Rattle.nm_calls.proofs.system.System.numa_maps.Goals.{Else-is_none}
use Rattle.nm_calls.proofs.system.System.numa_maps.Goals as goal

pub returns-then-is_none-clause-done : goal.returns-then-is_none-clause-done
unfolding refusal_of
returns-then-is_none-clause-done g c =
    let s = c.self.inside.machine in
    let y : SystemState = record { state = s; run_limit = c.self.inside.run_limit } in
    let info = c.info.ensures ∙ ap (λ (v : AddressSpacesView). option_map info_of (get nat_cmp v.processes c.args.pid)) c.spaces-spaces.ensures in
    let unknown = unlisted (get nat_cmp s.processes c.args.pid) c.info.result true info (c.is_none.ensures ∙ ap not c.if-is_none.true) in
    subst (λ (z : SystemState). outcome z (NumaMaps c.args.pid) ≡ record { answer = Refusal Esrch; system = z }) c.self.view_is (refuses y (NumaMaps c.args.pid) Esrch unknown)

pub returns-then-is_none-clause-allocates : goal.returns-then-is_none-clause-allocates
returns-then-is_none-clause-allocates g c = λ runs policy_set is. absurd (cc)

-- the process is there
listed : (g : Over) (c : Else-is_none g) → refusal_of c.self.inside.machine (NumaMaps c.args.pid) ≡ None
unfolding refusal_of
listed g c =
    let info = c.info.ensures ∙ ap (λ (v : AddressSpacesView). option_map info_of (get nat_cmp v.processes c.args.pid)) c.spaces-spaces.ensures in
    unlisted (get nat_cmp c.self.inside.machine.processes c.args.pid) c.info.result false info (c.is_none.ensures ∙ ap not c.if-is_none.false)

pub returns-in_err-areas-clause-done : goal.returns-in_err-areas-clause-done
unfolding refusal_of refused_at_once
returns-in_err-areas-clause-done g c =
    let y : SystemState = record { state = c.self.inside.machine; run_limit = c.self.inside.run_limit } in
    let known = listed g (goal.at.returns-in_err-areas-clause-done g c).Else-is_none in
    subst (λ (z : SystemState). Does (λ lines. Lines (lines_shown lines.items)) c.from_residual.result z z (NumaMaps c.args.pid)) c.self.view_is (out_at_once _ y (NumaMaps c.args.pid) c.from_residual.result known c.from_residual.ensures)

pub returns-in_err-areas-clause-allocates : goal.returns-in_err-areas-clause-allocates
returns-in_err-areas-clause-allocates g c = λ runs policy_set is.
    let lines = ap (λ (m : Mapping). lines_of m.segments m.areas c.args.pid) c.areas.ensures.areas ∙ ap (λ (y : AddressSpacesView). lines_of y.segments y.areas c.args.pid) c.spaces-spaces.ensures in
    subst (λ (z : SystemState). 0 < length (lines_of z.state.segments z.state.areas c.args.pid)) c.self.view_is
    (subst (λ (l : List Area). 0 < length l) lines c.in_err-areas.ensures.allocates)

pub areas_text-requires-after_bounds : goal.areas_text-requires-after_bounds
areas_text-requires-after_bounds g c = λ lifetimes bound.
    let lines = c.in_ok-areas.ensures.lines ∙ ap (λ (m : Mapping). lines_of m.segments m.areas c.args.pid) c.areas.ensures.areas ∙ ap (λ (y : AddressSpacesView). lines_of y.segments y.areas c.args.pid) c.spaces-spaces.ensures in
    lines_end c.self.inside.machine c.args.pid c.as_slice.result.now c.geometry.ensures.sound (c.as_slice.ensures.value ∙ lines)

pub returns-in_err-areas_text-clause-done : goal.returns-in_err-areas_text-clause-done
unfolding refusal_of refused_at_once
returns-in_err-areas_text-clause-done g c =
    let y : SystemState = record { state = c.self.inside.machine; run_limit = c.self.inside.run_limit } in
    let known = listed g (goal.at.returns-in_err-areas_text-clause-done g c).Else-is_none in
    subst (λ (z : SystemState). Does (λ lines. Lines (lines_shown lines.items)) c.from_residual-in_err-areas_text.result z z (NumaMaps c.args.pid)) c.self.view_is
    (out_at_once _ y (NumaMaps c.args.pid) c.from_residual-in_err-areas_text.result known c.from_residual-in_err-areas_text.ensures)

pub returns-in_err-areas_text-clause-allocates : goal.returns-in_err-areas_text-clause-allocates
returns-in_err-areas_text-clause-allocates g c = λ runs policy_set is.
    let lines = c.in_ok-areas.ensures.lines ∙ ap (λ (m : Mapping). lines_of m.segments m.areas c.args.pid) c.areas.ensures.areas ∙ ap (λ (y : AddressSpacesView). lines_of y.segments y.areas c.args.pid) c.spaces-spaces.ensures in
    subst (λ (z : SystemState). 0 < length (lines_of z.state.segments z.state.areas c.args.pid)) c.self.view_is
    (subst (λ (l : List Area). 0 < length l) (c.as_slice.ensures.value ∙ lines) c.in_err-areas_text.ensures.allocates)

pub returns-clause-done : goal.returns-clause-done
unfolding refusal_of end_of_call
returns-clause-done g c =
    let s = c.self.inside.machine in
    let y : SystemState = record { state = s; run_limit = c.self.inside.run_limit } in
    let known = listed g (goal.at.returns-clause-done g c).Else-is_none in
    let lines = c.in_ok-areas.ensures.lines ∙ ap (λ (m : Mapping). lines_of m.segments m.areas c.args.pid) c.areas.ensures.areas ∙ ap (λ (y : AddressSpacesView). lines_of y.segments y.areas c.args.pid) c.spaces-spaces.ensures in
    let text = c.in_ok-areas_text.ensures.list ∙ maps_are s c.args.pid c.as_slice.result.now (c.as_slice.ensures.value ∙ lines) in
    subst (λ (z : SystemState). outcome z (NumaMaps c.args.pid) ≡ record { answer = Lines (lines_shown c.in_ok-areas_text.field-0.items); system = z }) c.self.view_is
    (answers y (NumaMaps c.args.pid) (record { answer = Lines (lines_shown c.in_ok-areas_text.field-0.items); system = y }) known (ap (λ (ls : List (List ℕ)). record { answer = Lines ls; system = y }) (sym text)))

pub returns-clause-allocates : goal.returns-clause-allocates
returns-clause-allocates g c = λ runs policy_set is. absurd (cc)
