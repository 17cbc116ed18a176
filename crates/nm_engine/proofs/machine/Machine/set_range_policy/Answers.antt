use Rattle.std.proofs.Common.{◌≡◌, ℕ, List, sym, ap, subst, ◌∙◌}
use Rattle.std.specs.Prelude.{Result, Ok, Err, OnOk}
use Rattle.nm_types.specs.declared.area.Policy.{Policy}
use Rattle.nm_types.specs.State.{State}
use Rattle.nm_model.specs.definitions.Areas.{with_policy}
use Rattle.nm_model.specs.definitions.Effect.{set_range_policy}
use Rattle.nm_spaces.specs.views.AddressSpaces.{AddressSpacesView, mapped_of, with_mapped}
use Rattle.nm_pool.specs.views.Frames.{FramesView}
use Rattle.nm_engine.specs.views.Shown.{shown_by}
use Rattle.nm_engine.specs.views.RunState.{IsSoundMachine}
use Rattle.nm_engine.proofs.Between.{on_either}
use Rattle.nm_engine.proofs.MidRun.AreaChanges.{kept_policed}
use Rattle.nm_engine.proofs.machine.Machine.set_range_policy.Goals as goal

pub invariant_of-self : goal.invariant_of-self
invariant_of-self g c =
    let i = c.self.inside in
    let a = c.args in
    record {
      kept = on_either c.set_range_policy.result c.set_range_policy.ensures.ok c.set_range_policy.ensures.err
          (λ new. kept_policed i.spaces c.set_range_policy.new.self i.frames i.online i.totals.moved i.totals.failed c.self.invariant.kept a.pid a.range.first a.range.end a.policy new)
          (λ same. subst (λ (y : AddressSpacesView). IsSoundMachine (shown_by y i.frames i.online i.totals.moved i.totals.failed) i.frames.vacated y.frames) (sym same) c.self.invariant.kept);
      none = c.self.invariant.none;
    }

-- what the machine's state is where the address spaces have the policy
shown : {T E : Type 0} (r : Result T E) (y z : AddressSpacesView) (k : FramesView) (online : List ℕ) (moved failed : ℕ) (s : State) (pid first end : ℕ) (policy : Policy) → shown_by y k online moved failed ≡ s
    → OnOk r (z ≡ with_mapped y (with_policy (mapped_of y) pid first end policy)) → OnOk r (shown_by z k online moved failed ≡ set_range_policy s pid first end policy)
shown (Ok value) y z k online moved failed s pid first end policy is now = ap (λ (w : AddressSpacesView). shown_by w k online moved failed) now ∙ ap (λ (t : State). set_range_policy t pid first end policy) is
shown (Err e) y z k online moved failed s pid first end policy is now = tt

pub returns-clause-ok : goal.returns-clause-ok
returns-clause-ok g c =
    let i = c.self.inside in
    let a = c.args in
    shown c.set_range_policy.result i.spaces c.set_range_policy.new.self i.frames i.online i.totals.moved i.totals.failed a.self.now a.pid a.range.first a.range.end a.policy c.self.view_is c.set_range_policy.ensures.ok
