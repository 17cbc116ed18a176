use Rattle.std.proofs.Common.{ℕ, refl, sym, subst, ap, ◌∙◌}
use Rattle.std.specs.Prelude.{IsSome}
use Rattle.nm_types.specs.Map.{Map}
use Rattle.nm_model.specs.definitions.PageTables.{Task}
use Rattle.nm_spaces.specs.views.AddressSpaces.{spaces_view, without_seen}
use Rattle.nm_spaces.specs.definitions.Tied.{IsTied}
use Rattle.nm_spaces.proofs.Boxed.{seen, tied}
use Rattle.nm_spaces.proofs.Tied.Touches.{task_at, process_at}
use Rattle.nm_spaces.proofs.Tied.UndoneTouches.{named_below, clear_tied, clear_shows}
use Rattle.nm_spaces.proofs.address_spaces.AddressSpaces.unsee.Goals as goal

pub drop_mapper-requires : goal.drop_mapper-requires
drop_mapper-requires g c = λ f n. let x = c.deref_mut-parts.result.now in named_below x.tasks x.areas x.rmap c.args.pid c.args.vpn f (tied c.deref_mut-parts.ensures.value c.self.invariant) n

pub clear-requires : goal.clear-requires
clear-requires g c =
    let x = c.deref_mut-parts.result.now in
    let t = task_at c.args.self.now x.tasks x.areas x.rmap c.args.pid (seen c.deref_mut-parts.ensures.value c.self.view_is) c.requires in
    subst IsSome (sym t.1) refl

pub invariant_of-self : goal.invariant_of-self
invariant_of-self g c =
    let x = c.deref_mut-parts.result.now in
    let t = task_at c.args.self.now x.tasks x.areas x.rmap c.args.pid (seen c.deref_mut-parts.ensures.value c.self.view_is) c.requires in
    subst (λ (ts : Map ℕ Task). IsTied ts x.areas c.drop_mapper.new.rmap) (sym (c.clear.ensures t.0 t.1))
    (clear_tied x.tasks x.areas x.rmap c.drop_mapper.new.rmap c.args.pid c.args.vpn t.0 (tied c.deref_mut-parts.ensures.value c.self.invariant) t.1 c.drop_mapper.ensures)

pub returns : goal.returns
returns g c = λ p h.
    let x = c.deref_mut-parts.result.now in
    let t = task_at c.args.self.now x.tasks x.areas x.rmap c.args.pid (seen c.deref_mut-parts.ensures.value c.self.view_is) c.requires in
    let same = process_at c.args.self.now x.tasks x.areas x.rmap c.args.pid t.0 p (seen c.deref_mut-parts.ensures.value c.self.view_is) t.1 h in
    ap (λ ts. spaces_view ts x.areas c.drop_mapper.new.rmap) (c.clear.ensures t.0 t.1)
    ∙ clear_shows x.tasks x.areas x.rmap c.drop_mapper.new.rmap c.args.pid c.args.vpn t.0 (tied c.deref_mut-parts.ensures.value c.self.invariant) t.1 c.drop_mapper.ensures
    ∙ (λ i. without_seen ((seen c.deref_mut-parts.ensures.value c.self.view_is) i) c.args.pid (same i) c.args.vpn)
