use Rattle.std.proofs.Common.{ap, ◌∙◌, length}
use Rattle.nm_model.specs.definitions.Seen.{users}
use Rattle.nm_spaces.specs.views.AddressSpaces.{AddressSpacesView}
use Rattle.nm_spaces.proofs.Boxed.{seen, tied}
use Rattle.nm_spaces.proofs.Tied.CountedProcesses.{users_counted}
use Rattle.nm_spaces.proofs.Moves.OnePage.{placed_in}
use Rattle.nm_spaces.proofs.address_spaces.AddressSpaces.users_in.Goals as goal

pub processes-requires : goal.processes-requires
processes-requires g c =
    let x = c.deref-parts.result.now in
    (tied c.deref-parts.ensures c.self.invariant).in_range c.requires.0 c.args.frame (placed_in c.args.self.now x.tasks x.areas x.rmap c.requires.0 c.args.frame (seen c.deref-parts.ensures c.self.view_is) c.requires.1)

pub returns : goal.returns
returns g c page there =
    let x = c.deref-parts.result.now in
    let placed = placed_in c.args.self.now x.tasks x.areas x.rmap page c.args.frame (seen c.deref-parts.ensures c.self.view_is) there in
    c.processes.ensures ∙ users_counted x.tasks x.areas x.rmap (tied c.deref-parts.ensures c.self.invariant) page c.args.frame placed
    ∙ ap (λ (y : AddressSpacesView). length (users y.processes page)) (seen c.deref-parts.ensures c.self.view_is)
