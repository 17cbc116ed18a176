use Rattle.std.proofs.Common.{◌≡◌, ◌^◌, ℕ, [], ap, sym, subst, ◌∙◌, arith, ⊎_elim}
use Rattle.std.specs.Ordering.{nat_cmp}
use Rattle.nm_types.specs.Map.{without}
use Rattle.nm_types.specs.State.{State}
use Rattle.nm_areas.specs.Splits.{HasSplit}
use Rattle.nm_model.proofs.areas.Apart.{covers_parts}
use Rattle.nm_model.proofs.areas.Parted.{All-among, among_over}
use Rattle.nm_model.specs.definitions.Seen.{sight_in, sight_at}
use Rattle.nm_model.specs.definitions.Effect.{drop_range}
use Rattle.nm_model.specs.definitions.Sound.{IsSoundInFlight, IsSound, IsWhole}
use Rattle.nm_spaces.specs.views.AddressSpaces.{AddressSpacesView}
use Rattle.nm_engine.specs.views.Shown.{shown_by}
use Rattle.nm_engine.specs.views.RunState.{IsSoundMachine}
use Rattle.nm_laws.proofs.Soundness.Dropped.{sees_none, exit_sound}
use Rattle.nm_engine.proofs.Between.{sound_between}
use Rattle.nm_engine.proofs.MidRun.LostFrames.{sees_nothing}
use Rattle.nm_engine.proofs.machine.Machine.exit.Goals as goal

-- no area is split at the first page number, or at the last
not_at_first : (s : State) (pid : ℕ) → HasSplit s.areas pid 0 → ⊥
not_at_first s pid split = omega (arith, split.2)

not_at_last : (s : State) (h : IsSound s) (pid : ℕ) → HasSplit s.areas pid (2 ^ 35) → ⊥
not_at_last s h pid split =
    let found = among_over s.areas pid (2 ^ 35) split.0 split.1 in
    let whole = All-among (IsWhole s) s.areas split.0 h.areas found.0 in
    let parts = covers_parts split.0 pid (2 ^ 35) found.1 in
    omega (arith, whole.1, parts.2)

pub remove_task-requires : goal.remove_task-requires
remove_task-requires g c p there =
    let s = c.args.self.now in
    let sound : IsSound s = subst IsSound c.self.view_is (sound_between c.self.invariant) in
    let is = c.self-2.view_is ∙ c.in_ok-let_go.ensures.ok ∙ (λ i. drop_range s c.args.pid (c.new-first.ensures i) (c.new-end.ensures i)) in
    sees_nothing p.sees (λ w. sym (ap (λ o. sight_in o w) there) ∙ ap (λ (t : State). sight_at t c.args.pid w) is ∙ sees_none s sound c.args.pid w)

pub invariant_of-self : goal.invariant_of-self
invariant_of-self g c =
    let s = c.args.self.now in
    let i = c.self-2.inside in
    let sound : IsSound s = subst IsSound c.self.view_is (sound_between c.self.invariant) in
    let is : shown_by i.spaces i.frames i.online i.totals.moved i.totals.failed ≡ drop_range s c.args.pid 0 (2 ^ 35) =
    c.self-2.view_is ∙ c.in_ok-let_go.ensures.ok ∙ (λ i. drop_range s c.args.pid (c.new-first.ensures i) (c.new-end.ensures i)) in
    let left : i.frames.vacated ≡ [] = c.self-2.invariant.none in
    let out : State → State = λ t. record t { processes = without nat_cmp t.processes c.args.pid } in
    record {
      none = left;
      kept = subst (λ (z : AddressSpacesView). IsSoundMachine (shown_by z i.frames i.online i.totals.moved i.totals.failed) i.frames.vacated z.frames) (sym c.remove_task.ensures)
          (record {
            sound = subst (λ l. IsSoundInFlight (out (shown_by i.spaces i.frames i.online i.totals.moved i.totals.failed)) l) (sym left)
                (subst (λ t. IsSoundInFlight t []) (sym (ap out is)) (exit_sound s sound c.args.pid));
            as_many = c.self-2.invariant.kept.as_many;
          });
    }

-- so only pages with a frame take memory
pub returns-in_err-let_go-clause-needed : goal.returns-in_err-let_go-clause-needed
returns-in_err-let_go-clause-needed g c told =
    let s = c.args.self.now in
    let sound : IsSound s = subst IsSound c.self.view_is (sound_between c.self.invariant) in
    ⊎_elim (λ some. some) (λ split. ⊎_elim (λ first. absurd (not_at_first s c.args.pid (subst (HasSplit s.areas c.args.pid) c.new-first.ensures first)))
    (λ last. absurd (not_at_last s sound c.args.pid (subst (HasSplit s.areas c.args.pid) c.new-end.ensures last))) split)
    c.in_err-let_go.ensures.needed
