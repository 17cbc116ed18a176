use Rattle.std.proofs.Common.{ap, sym, ◌∙◌, length}
use Rattle.std.specs.Prelude.{nat_lt}
use Rattle.nm_types.specs.declared.seen.Seen.TheVariants.{At}
use Rattle.nm_model.specs.definitions.Seen.{users}
use Rattle.nm_spaces.specs.views.AddressSpaces.{AddressSpacesView}
use Rattle.nm_spaces.proofs.Boxed.{seen, tied}
use Rattle.nm_spaces.proofs.Tied.CountedProcesses.{users_counted}
use Rattle.nm_spaces.proofs.Moves.OnePage.{placed_in}
use Rattle.nm_spaces.proofs.Tied.PinChanges.{pins_shown}
use Rattle.nm_spaces.proofs.address_spaces.AddressSpaces.look_at.Goals as goal

pub returns : goal.returns
returns g c =
    let x = c.deref-parts.result.now in
    let placed = placed_in c.args.self.now x.tasks x.areas x.rmap c.args.page c.args.frame (seen c.deref-parts.ensures c.self.view_is) c.requires in
    let counted =
    c.processes.ensures ∙ users_counted x.tasks x.areas x.rmap (tied c.deref-parts.ensures c.self.invariant) c.args.page c.args.frame placed
    ∙ ap (λ (y : AddressSpacesView). length (users y.processes c.args.page)) (seen c.deref-parts.ensures c.self.view_is) in
    let pins = c.pins.ensures.pins ∙ sym (pins_shown c.args.self.now x.tasks x.areas x.rmap c.args.page c.args.frame (seen c.deref-parts.ensures c.self.view_is) c.requires) in
    ap (λ n. At c.args.page c.args.frame n (nat_lt 0 c.pins.result)) counted
    ∙ ap (λ n. At c.args.page c.args.frame (length (users c.args.self.now.processes c.args.page)) (nat_lt 0 n)) pins
