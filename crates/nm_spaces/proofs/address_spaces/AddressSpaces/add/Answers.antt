use Rattle.std.proofs.Common.{ℕ, ap, sym, subst, ◌∙◌}
use Rattle.std.specs.Ordering.{nat_cmp}
use Rattle.nm_types.specs.Map.{Map, set}
use Rattle.nm_model.specs.definitions.Effect.{new_process}
use Rattle.nm_model.specs.definitions.PageTables.{Task}
use Rattle.nm_spaces.specs.views.AddressSpaces.{AddressSpacesView, spaces_view}
use Rattle.nm_spaces.specs.definitions.Tied.{IsTied}
use Rattle.nm_spaces.proofs.Boxed.{seen, tied}
use Rattle.nm_spaces.proofs.ProcessTable.Changes.{on_ok, on_both}
use Rattle.nm_spaces.proofs.Tied.Beginnings.{no_task, added_tied, added_shows}
use Rattle.nm_spaces.proofs.address_spaces.AddressSpaces.add.Goals as goal

pub add-requires : goal.add-requires
add-requires g c = let x = c.deref_mut-parts.result.now in no_task c.args.self.now x.tasks x.areas x.rmap c.args.pid (seen c.deref_mut-parts.ensures.value c.self.view_is) c.requires

pub invariant_of-self : goal.invariant_of-self
invariant_of-self g c =
    let x = c.deref_mut-parts.result.now in
    let none = no_task c.args.self.now x.tasks x.areas x.rmap c.args.pid (seen c.deref_mut-parts.ensures.value c.self.view_is) c.requires in
    on_both c.add.result
    (λ is. subst (λ (ts : Map ℕ Task). IsTied ts x.areas x.rmap) (sym is) (added_tied x.tasks x.areas x.rmap c.args.pid c.args.info (tied c.deref_mut-parts.ensures.value c.self.invariant) none))
    (λ is. subst (λ (ts : Map ℕ Task). IsTied ts x.areas x.rmap) (sym is) (tied c.deref_mut-parts.ensures.value c.self.invariant))
    c.add.ensures.ok c.add.ensures.err

pub returns-clause-ok : goal.returns-clause-ok
returns-clause-ok g c =
    let x = c.deref_mut-parts.result.now in
    let none = no_task c.args.self.now x.tasks x.areas x.rmap c.args.pid (seen c.deref_mut-parts.ensures.value c.self.view_is) c.requires in
    on_ok c.add.result
    (λ is. ap (λ ts. spaces_view ts x.areas x.rmap) is
    ∙ added_shows x.tasks x.areas x.rmap c.args.pid c.args.info (tied c.deref_mut-parts.ensures.value c.self.invariant) none
    ∙ ap (λ (y : AddressSpacesView). record y { processes = set nat_cmp y.processes c.args.pid (new_process c.args.info) }) (seen c.deref_mut-parts.ensures.value c.self.view_is))
    c.add.ensures.ok
