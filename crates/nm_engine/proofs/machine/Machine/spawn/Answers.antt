use Rattle.std.proofs.Common.{◌≡◌, sym, arith, refl, ap, subst, ◌∙◌}
use Rattle.std.specs.Prelude.{Some, None, nat_le}
use Rattle.std.specs.List.{list_any}
use Rattle.std.specs.Ordering.{nat_cmp}
use Rattle.nm_types.specs.declared.errno.Errno.TheVariants.{Enomem}
use Rattle.nm_types.specs.declared.process.ProcessInfo.{ProcessInfo}
use Rattle.nm_types.specs.Layout.{node_count}
use Rattle.nm_types.specs.Map.{set}
use Rattle.nm_types.specs.State.{State}
use Rattle.nm_model.specs.definitions.Effect.{spawn, spawn_refusal, new_process}
use Rattle.nm_spaces.specs.views.AddressSpaces.{AddressSpacesView, table_of}
use Rattle.nm_engine.specs.views.Shown.{paged_frames, shown_by}
use Rattle.nm_engine.specs.views.RunState.{IsSoundMachine}
use Rattle.nm_engine.proofs.Between.{on_either}
use Rattle.nm_engine.proofs.MidRun.AreaCalls.{kept_spawned, spawn_fine, spawn_full}
use Rattle.nm_engine.proofs.Does.HandedOn.{may_ask, nothing_made}
use Rattle.nm_engine.proofs.machine.Machine.spawn.Given.{Over}
use Rattle.nm_engine.proofs.machine.Machine.spawn.Goals.{Else-len-ge-MAX_PROCESSES, After-add}
use Rattle.nm_engine.proofs.machine.Machine.spawn.Goals as goal

-- nothing is refused
fine : (g : Over) (c : Else-len-ge-MAX_PROCESSES g)
    → let i = c.self.inside in spawn_refusal (shown_by i.spaces i.frames i.online i.totals.moved i.totals.failed) c.args.pid c.args.home c.args.allowed ≡ None
fine g c =
    let i = c.self.inside in
    let nodes = c.node_count-count.ensures.count ∙ ap node_count c.geometry.ensures in
    spawn_fine (shown_by i.spaces i.frames i.online i.totals.moved i.totals.failed) c.args.pid c.args.home c.args.allowed c.info.result (λ e. c.if-number-eq0.false (c.number.ensures ∙ e)) c.info.ensures (sym c.is_some.ensures ∙ c.if-is_some.false)
    (omega (arith, c.if-index-count.false, c.index.ensures, nodes)) c.if-is_empty.ensures.1
    (ap (λ k. list_any (nat_le k) c.args.allowed) (sym nodes) ∙ sym c.has_beyond.ensures ∙ c.if-has_beyond.false) (omega (arith, c.if-len-ge-MAX_PROCESSES.false, c.len.ensures))

-- the machine is sound whether or not the process was added
kept : (g : Over) (c : After-add g)
    → let i = c.self.inside in spawn_refusal (shown_by i.spaces i.frames i.online i.totals.moved i.totals.failed) c.args.pid c.args.home c.args.allowed ≡ None
    → IsSoundMachine (shown_by c.add.new.self i.frames i.online i.totals.moved i.totals.failed) i.frames.vacated c.add.new.self.frames
kept g c none_refused =
    let i = c.self.inside in
    let info : ProcessInfo = record { uid = c.args.uid; privileged = c.args.privileged; home = c.args.home; allowed = c.args.allowed } in
    let kept_by = λ (y : AddressSpacesView). IsSoundMachine (shown_by y i.frames i.online i.totals.moved i.totals.failed) i.frames.vacated y.frames in
    on_either c.add.result c.add.ensures.ok c.add.ensures.err
    (λ new. subst kept_by (sym new)
    (kept_spawned i.spaces.processes (table_of i.spaces) (paged_frames i.spaces i.frames) i.online i.totals.moved i.totals.failed (set nat_cmp i.spaces.processes c.args.pid (new_process info)) c.args.pid (new_process info)
    c.self.invariant.none c.self.invariant.kept none_refused refl refl))
    (λ same. subst kept_by (sym same) c.self.invariant.kept)

pub invariant_of-self : goal.invariant_of-self
invariant_of-self g c =
    let at = goal.at.invariant_of-self g c in
    record { none = c.self.invariant.none; kept = kept g at.After-add (fine g at.Else-len-ge-MAX_PROCESSES) }

pub invariant_of-self-2 : goal.invariant_of-self-2
invariant_of-self-2 g c =
    let at = goal.at.invariant_of-self-2 g c in
    record { none = c.self.invariant.none; kept = kept g at.After-add (fine g at.Else-len-ge-MAX_PROCESSES) }

pub returns-clause-done : goal.returns-clause-done
returns-clause-done g c =
    let i = c.self.inside in (
      subst (λ (z : State). spawn_refusal z c.args.pid c.args.home c.args.allowed ≡ None) c.self.view_is (fine g (goal.at.returns-clause-done g c).Else-len-ge-MAX_PROCESSES),
      ap (λ (y : AddressSpacesView). shown_by y i.frames i.online i.totals.moved i.totals.failed) c.in_ok-add.ensures.ok
          ∙ ap (λ (z : State). spawn z c.args.pid c.args.uid c.args.home c.args.allowed c.args.privileged) c.self.view_is,
    )

pub returns-in_err-add-clause-memory : goal.returns-in_err-add-clause-memory
returns-in_err-add-clause-memory g c =
    may_ask c.from_residual.result _
    (subst (λ (z : State). spawn_refusal z c.args.pid c.args.home c.args.allowed ≡ None) c.self.view_is (fine g (goal.at.returns-in_err-add-clause-memory g c).Else-len-ge-MAX_PROCESSES))

pub returns-in_err-add-clause-done : goal.returns-in_err-add-clause-done
returns-in_err-add-clause-done g c =
    let i = c.self.inside in
    nothing_made c.from_residual.result _ _ _ _ c.from_residual.ensures
    (ap (λ (y : AddressSpacesView). shown_by y i.frames i.online i.totals.moved i.totals.failed) c.in_err-add.ensures.err ∙ c.self.view_is)

pub returns-then-len-ge-MAX_PROCESSES-clause-done : goal.returns-then-len-ge-MAX_PROCESSES-clause-done
returns-then-len-ge-MAX_PROCESSES-clause-done g c =
    let i = c.self.inside in
    let s = shown_by i.spaces i.frames i.online i.totals.moved i.totals.failed in
    let nodes = c.node_count-count.ensures.count ∙ ap node_count c.geometry.ensures in (
      subst (λ (z : State). spawn_refusal z c.args.pid c.args.home c.args.allowed ≡ Some Enomem) c.self.view_is
          (spawn_full s c.args.pid c.args.home c.args.allowed c.info.result (λ e. c.if-number-eq0.false (c.number.ensures ∙ e)) c.info.ensures (sym c.is_some.ensures ∙ c.if-is_some.false)
          (omega (arith, c.if-index-count.false, c.index.ensures, nodes)) c.if-is_empty.ensures.1
          (ap (λ k. list_any (nat_le k) c.args.allowed) (sym nodes) ∙ sym c.has_beyond.ensures ∙ c.if-has_beyond.false) (omega (arith, c.if-len-ge-MAX_PROCESSES.true, c.len.ensures))),
      refl,
    )
