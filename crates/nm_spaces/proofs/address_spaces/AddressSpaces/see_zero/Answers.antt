use Rattle.std.proofs.Common.{ℕ, refl, sym, subst, ap, ◌∙◌}
use Rattle.std.specs.Prelude.{IsSome, None}
use Rattle.nm_types.specs.declared.sight.Sight.TheVariants.{ZeroPage}
use Rattle.nm_types.specs.Map.{Map}
use Rattle.nm_model.specs.definitions.PageTables.{Task}
use Rattle.nm_spaces.specs.views.AddressSpaces.{spaces_view, with_seen}
use Rattle.nm_spaces.specs.definitions.Tied.{IsTied}
use Rattle.nm_spaces.proofs.Boxed.{seen, tied}
use Rattle.nm_spaces.proofs.ProcessTable.Changes.{on_ok, on_err, on_both}
use Rattle.nm_spaces.proofs.Tied.Beginnings.{seen_here}
use Rattle.nm_spaces.proofs.Tied.Touches.{task_at, process_at, unmapped_at, zero_tied, zero_shows}
use Rattle.nm_spaces.proofs.address_spaces.AddressSpaces.see_zero.Goals as goal

pub set-requires : goal.set-requires
set-requires g c =
    let x = c.deref_mut-parts.result.now in
    let t = task_at c.args.self.now x.tasks x.areas x.rmap c.args.pid (seen c.deref_mut-parts.ensures.value c.self.view_is) c.requires.known in
    subst IsSome (sym t.1) refl

pub invariant_of-self : goal.invariant_of-self
invariant_of-self g c =
    let x = c.deref_mut-parts.result.now in
    let t = task_at c.args.self.now x.tasks x.areas x.rmap c.args.pid (seen c.deref_mut-parts.ensures.value c.self.view_is) c.requires.known in
    let free = unmapped_at c.args.self.now x.tasks x.areas x.rmap c.args.pid c.args.vpn (seen c.deref_mut-parts.ensures.value c.self.view_is) c.requires.unseen in
    on_both c.set.result
    (λ is. subst (λ (ts : Map ℕ Task). IsTied ts x.areas x.rmap) (sym (is t.0 t.1)) (zero_tied x.tasks x.areas x.rmap c.args.pid t.0 c.args.vpn (tied c.deref_mut-parts.ensures.value c.self.invariant) t.1 free))
    (λ is. subst (λ (ts : Map ℕ Task). IsTied ts x.areas x.rmap) (sym is) (tied c.deref_mut-parts.ensures.value c.self.invariant))
    c.set.ensures.ok c.set.ensures.err

pub returns-clause-ok : goal.returns-clause-ok
returns-clause-ok g c =
    let x = c.deref_mut-parts.result.now in
    let t = task_at c.args.self.now x.tasks x.areas x.rmap c.args.pid (seen c.deref_mut-parts.ensures.value c.self.view_is) c.requires.known in
    let free = unmapped_at c.args.self.now x.tasks x.areas x.rmap c.args.pid c.args.vpn (seen c.deref_mut-parts.ensures.value c.self.view_is) c.requires.unseen in
    on_ok c.set.result
    (λ is p h.
    let same = process_at c.args.self.now x.tasks x.areas x.rmap c.args.pid t.0 p (seen c.deref_mut-parts.ensures.value c.self.view_is) t.1 h in
    ap (λ ts. spaces_view ts x.areas x.rmap) (is t.0 t.1)
    ∙ zero_shows x.tasks x.areas x.rmap c.args.pid t.0 c.args.vpn (tied c.deref_mut-parts.ensures.value c.self.invariant) t.1 free
    ∙ (λ i. with_seen ((seen c.deref_mut-parts.ensures.value c.self.view_is) i) c.args.pid (same i) c.args.vpn ZeroPage))
    c.set.ensures.ok

pub returns-clause-empty : goal.returns-clause-empty
returns-clause-empty g c =
    let x = c.deref_mut-parts.result.now in
    on_err c.set.result
    (λ none v near. sym (seen_here c.args.self.now x.tasks x.areas x.rmap c.args.pid v None (seen c.deref_mut-parts.ensures.value c.self.view_is) (sym (none v near))))
    c.set.ensures.empty
