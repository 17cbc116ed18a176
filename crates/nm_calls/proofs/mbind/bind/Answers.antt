use Rattle.std.proofs.Common.{arith, ◌≡◌, ◌≤◌, ℕ, Result, Ok, Err, IsErrAnd, ◌<◌, ◌-◌, ◌*◌, ◌&&◌, List, [], length, true, inl, inr, ap, subst, refl, sym, ◌∙◌}
use Rattle.std.specs.List.{list_any}
use Rattle.nm_types.specs.Layout.{node_count}
use Rattle.nm_types.specs.State.{State}
use Rattle.nm_model.specs.definitions.Areas.{with_policy}
use Rattle.nm_model.specs.definitions.Cut.{Stretch}
use Rattle.nm_model.specs.definitions.Effect.{areas_of, set_range_policy, with_areas_of}
use Rattle.nm_model.specs.definitions.Run.{runs_from}
use Rattle.nm_calls.specs.definitions.Mbind.{checks_after_moves, has_stray, home_of, is_strict, mbind_runs}
use Rattle.nm_passes.specs.definitions.Placement.{is_stray, runs_by}
use Rattle.nm_passes.specs.definitions.Permission.{info_at, has_move_all}
use Rattle.nm_passes.specs.declared.call_error.CallError.{CallError}
use Rattle.nm_passes.specs.declared.binding.Binding.{Binding}
use Rattle.nm_passes.specs.views.Errors.{out_of_memory}
use Rattle.nm_passes.specs.views.Runs.{runs_in, CanGo, Stops}
use Rattle.nm_calls.specs.views.Ends.{Binds, FailsBinding}
use Rattle.nm_calls.proofs.Policies.Late.{flag_is, late_is, stops_fail}
use Rattle.nm_calls.proofs.Policies.NoBytes.{listed_moves, runs_some, stops_some}
use Rattle.nm_calls.proofs.mbind.bind.Given.{Over}
use Rattle.nm_calls.proofs.mbind.bind.Goals.{In_ok-way, After-is_late}
use Rattle.nm_calls.proofs.mbind.bind.Goals as goal

-- no memory before the policy is set
none_bound : {T : Type 0} (r : Result T CallError) (s set : State) (b : Binding) (runs : List Stretch) (flags : ℕ) → IsErrAnd r (λ e. e ≡ out_of_memory 0) → Binds r s set s b runs flags
none_bound (Ok x) s set b runs flags h = absurd h
none_bound (Err e) s set b runs flags h = subst (λ e. FailsBinding e s set s b runs flags) (sym h) (inl (refl, refl, refl))

few_of : (n m k most : ℕ) → n ≡ m → m ≤ k → k ≤ most → n ≤ most
few_of n m k most same few small = omega (arith, same, few, small)

pub returns-in_err-pages-clause-bound : goal.returns-in_err-pages-clause-bound
returns-in_err-pages-clause-bound g c = none_bound c.from_residual.result _ _ _ _ _ c.from_residual.ensures.1

pub returns-in_err-way-clause-bound : goal.returns-in_err-way-clause-bound
returns-in_err-way-clause-bound g c = none_bound c.from_residual-in_err-way.result _ _ _ _ _ c.from_residual-in_err-way.ensures.1

pub make_moves-requires-clause-can_go : goal.make_moves-requires-clause-can_go
make_moves-requires-clause-can_go g c κs within =
    subst (λ (t : State). CanGo (node_count t.layout) c.in_ok-way.way) (sym c.in_ok-set_range_policy.ensures.ok) c.in_ok-way.ensures.can_go

pub returns-in-Err-clause-allocates : goal.returns-in-Err-clause-allocates
returns-in-Err-clause-allocates g c = λ runs policy_set is.
    let s = c.args.machine.now in
    let b = c.args.binding.now in
    let limit = c.args.limit in
    let way = c.in_ok-way.way in
    let made : 0 < length (runs_in limit c.set_range_policy.new.self way) = stops_some true c.in-Err.error _ _ _ c.in-Err.ensures in
    let m = with_policy (areas_of s) b.pid b.first b.end b.policy in
    let by = ap (λ (t : State). length (runs_in limit t way)) c.in_ok-set_range_policy.ensures.ok
    ∙ ap length (c.in_ok-way.ensures.runs limit m) in
    let some = runs_some limit (with_areas_of s m) b.policy c.args.asked.home b.pid c.moves_all-all.result c.as_slice.result.now (subst (λ n. 0 < n) by made) in
    inl (listed_moves s b c.args.asked.flags (subst (λ ps. 0 < length ps) (c.as_slice.ensures.value ∙ c.in_ok-pages.ensures.list) some))

-- the runs are those of the call
runs_are : (g : Over) (c : In_ok-way g)
    → let b = c.args.binding.now in
    let set = set_range_policy c.args.machine.now b.pid b.first b.end b.policy in
    runs_in c.args.limit set c.in_ok-way.way ≡ mbind_runs c.args.limit set b c.args.asked.flags
runs_are g c =
    let s = c.args.machine.now in
    let b = c.args.binding.now in
    let flags = c.args.asked.flags in
    let limit = c.args.limit in
    let set = set_range_policy s b.pid b.first b.end b.policy in
    let home = home_of (info_at s b.pid) in
    c.in_ok-way.ensures.runs limit (with_policy (areas_of s) b.pid b.first b.end b.policy)
    ∙ ap (λ h. runs_by limit set b.policy h b.pid c.moves_all-all.result c.as_slice.result.now) c.requires.home
    ∙ ap (λ all. runs_by limit set b.policy home b.pid all c.as_slice.result.now) (flag_is _ _ c.moves_all-all.ensures)
    ∙ ap (runs_by limit set b.policy home b.pid (has_move_all flags)) (c.as_slice.ensures.value ∙ c.in_ok-pages.ensures.list)

pub returns-in-Err-clause-bound : goal.returns-in-Err-clause-bound
returns-in-Err-clause-bound g c =
    let s = c.args.machine.now in
    let b = c.args.binding.now in
    let limit = c.args.limit in
    let set = set_range_policy s b.pid b.first b.end b.policy in
    let runs = runs_are g (goal.at.returns-in-Err-clause-bound g c).In_ok-way in
    let stopped = subst (λ (t : State). Stops true c.in-Err.error t c.make_moves.new.machine (runs_in limit t c.in_ok-way.way)) c.in_ok-set_range_policy.ensures.ok c.in-Err.ensures in
    stops_fail c.in-Err.error s set c.make_moves.new.machine b (mbind_runs limit set b c.args.asked.flags) c.args.asked.flags (subst (λ (rs : List Stretch). Stops true c.in-Err.error set c.make_moves.new.machine rs) runs stopped)

-- all runs were made, and whether pages stray after them is found
ends_bound : (g : Over) (c : After-is_late g)
    → let b = c.args.binding.now in
    let set = set_range_policy c.args.machine.now b.pid b.first b.end b.policy in
    let end = (runs_from 0 set (mbind_runs c.args.limit set b c.args.asked.flags) []).state in
    runs_in c.args.limit set c.in_ok-way.way ≡ mbind_runs c.args.limit set b c.args.asked.flags
    → record { late : (checks_after_moves c.args.asked.flags && has_stray c.args.machine.now end b) ≡ c.is_late.result; made : c.make_moves.new.machine ≡ end }
ends_bound g c runs =
    let b = c.args.binding.now in
    let flags = c.args.asked.flags in
    let set = set_range_policy c.args.machine.now b.pid b.first b.end b.policy in
    let end = (runs_from 0 set (mbind_runs c.args.limit set b flags) []).state in
    let made : c.make_moves.new.machine ≡ end = c.in_default.ensures ∙ ap (λ (t : State). (runs_from 0 t (runs_in c.args.limit t c.in_ok-way.way) []).state) c.in_ok-set_range_policy.ensures.ok ∙ ap (λ (rs : List Stretch). (runs_from 0 set rs []).state) runs in
    record {
      late = sym (late_is c.args.machine.now end b flags)
          ∙ ap (λ ps. is_strict flags && list_any (is_stray end b.policy) ps) (sym (c.as_slice-2.ensures.value ∙ c.in_ok-pages.ensures.list))
          ∙ ap (λ (t : State). is_strict flags && list_any (is_stray t b.policy) c.as_slice-2.result.now) (sym made) ∙ sym c.is_late.ensures;
      made = made;
    }

pub returns-then-is_late-clause-bound : goal.returns-then-is_late-clause-bound
returns-then-is_late-clause-bound g c =
    let at = goal.at.returns-then-is_late-clause-bound g c in
    let ends = ends_bound g at.After-is_late (runs_are g at.In_ok-way) in
    (ends.late ∙ c.if-is_late.true, refl, ends.made)

pub returns-clause-bound : goal.returns-clause-bound
returns-clause-bound g c =
    let at = goal.at.returns-clause-bound g c in
    let ends = ends_bound g at.After-is_late (runs_are g at.In_ok-way) in
    (ends.late ∙ c.if-is_late.false, ends.made)

pub way_of-requires-clause-nodes : goal.way_of-requires-clause-nodes
way_of-requires-clause-nodes g c κs within = c.requires.nodes

pub way_of-requires-clause-few : goal.way_of-requires-clause-few
way_of-requires-clause-few g c κs within = few_of _ _ _ _ (ap length c.as_slice.ensures.value) c.in_ok-pages.ensures.few c.requires.few

pub make_moves-requires-clause-some : goal.make_moves-requires-clause-some
make_moves-requires-clause-some g c κs within = c.requires.some

pub returns-in_err-pages-clause-allocates : goal.returns-in_err-pages-clause-allocates
returns-in_err-pages-clause-allocates g c = λ runs policy_set is. inl c.in_err-pages.ensures.allocates

pub returns-in_err-way-clause-allocates : goal.returns-in_err-way-clause-allocates
returns-in_err-way-clause-allocates g c = λ runs policy_set is. inl (listed_moves c.args.machine.now c.args.binding.now c.args.asked.flags (subst (λ ps. 0 < length ps) (c.as_slice.ensures.value ∙ c.in_ok-pages.ensures.list) c.in_err-way.ensures.allocates))

pub returns-then-is_late-clause-allocates : goal.returns-then-is_late-clause-allocates
returns-then-is_late-clause-allocates g c = λ runs policy_set is. absurd (cc is)

pub returns-clause-allocates : goal.returns-clause-allocates
returns-clause-allocates g c = λ runs policy_set is. absurd (cc is)

pub returns-in_err-set_range_policy-clause-bound : goal.returns-in_err-set_range_policy-clause-bound
returns-in_err-set_range_policy-clause-bound g c =
    let s = c.args.machine.now in
    let b = c.args.binding.now in
    let flags = c.args.asked.flags in
    let set = set_range_policy s b.pid b.first b.end b.policy in
    let r = c.from_residual-in_err-set_range_policy.result in
    subst (λ (t : State). Binds r s set t b (mbind_runs c.args.limit set b flags) flags) (sym c.in_err-set_range_policy.ensures.err) (none_bound r s set b (mbind_runs c.args.limit set b flags) flags c.from_residual-in_err-set_range_policy.ensures.1)

pub returns-in_err-set_range_policy-clause-allocates : goal.returns-in_err-set_range_policy-clause-allocates
returns-in_err-set_range_policy-clause-allocates g c = λ runs policy_set is. inr c.in_err-set_range_policy.ensures.allocates
