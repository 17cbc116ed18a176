use Rattle.std.proofs.Common.{ap, ◌∙◌, sym, subst}
use Rattle.nm_spaces.specs.views.AddressSpaces.{spaces_view}
use Rattle.nm_spaces.specs.definitions.Tied.{IsTied}
use Rattle.nm_spaces.proofs.Boxed.{seen, tied}
use Rattle.nm_spaces.proofs.Tied.ClearedEntries.{left_tied, left_shows}
use Rattle.nm_spaces.proofs.address_spaces.AddressSpaces.remove_task.Goals as goal

pub invariant_of-self : goal.invariant_of-self
invariant_of-self g c =
    let x = c.deref_mut-parts.result.now in
    subst (λ ts. IsTied ts x.areas x.rmap) (sym c.remove.ensures.gone) (left_tied c.args.self.now x.tasks x.areas x.rmap c.args.pid (tied c.deref_mut-parts.ensures.value c.self.invariant) (seen c.deref_mut-parts.ensures.value c.self.view_is) c.requires)

pub returns : goal.returns
returns g c =
    let x = c.deref_mut-parts.result.now in
    ap (λ ts. spaces_view ts x.areas x.rmap) c.remove.ensures.gone ∙ left_shows c.args.self.now x.tasks x.areas x.rmap c.args.pid (tied c.deref_mut-parts.ensures.value c.self.invariant) (seen c.deref_mut-parts.ensures.value c.self.view_is) c.requires
