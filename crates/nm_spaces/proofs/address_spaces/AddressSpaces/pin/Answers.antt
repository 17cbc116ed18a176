use Rattle.std.proofs.Common.{◌≡◌, ◌<◌, ◌≤◌, ◌+◌, ap, sym, subst, ◌∙◌}
use Rattle.nm_rmap.specs.Mappers.{Mappers, frame_pins}
use Rattle.nm_spaces.specs.views.AddressSpaces.{spaces_view, pins_here, with_pins_of}
use Rattle.nm_spaces.specs.definitions.Tied.{IsTied}
use Rattle.nm_spaces.proofs.Boxed.{seen, tied}
use Rattle.nm_spaces.proofs.ProcessTable.Changes.{on_ok, on_both, if_err}
use Rattle.nm_spaces.proofs.Moves.OnePage.{placed_in}
use Rattle.nm_spaces.proofs.Tied.PinChanges.{pins_shown, pins_tied, pins_shows}
use Rattle.nm_spaces.proofs.address_spaces.AddressSpaces.pin.Given.{Over}
use Rattle.nm_spaces.proofs.address_spaces.AddressSpaces.pin.Goals as goal

pub invariant_of-self : goal.invariant_of-self
invariant_of-self g c =
    let x = c.deref_mut-parts.result.now in
    let placed = placed_in c.args.self.now x.tasks x.areas x.rmap c.args.page c.args.frame (seen c.deref_mut-parts.ensures.value c.self.view_is) c.requires in
    on_both c.pin.result
    (λ is. subst (λ (r : Mappers). IsTied x.tasks x.areas r) (sym is) (pins_tied x.tasks x.areas x.rmap c.args.page c.args.frame (frame_pins x.rmap c.args.frame + 1) (tied c.deref_mut-parts.ensures.value c.self.invariant) placed))
    (λ is. subst (λ (r : Mappers). IsTied x.tasks x.areas r) (sym is) (tied c.deref_mut-parts.ensures.value c.self.invariant))
    c.pin.ensures.ok c.pin.ensures.err

-- the pins of the page are its frame's
here : (g : Over) (c : goal.After-self-1 g) → frame_pins c.deref_mut-parts.result.now.rmap c.args.frame ≡ pins_here c.args.self.now c.args.page
here g c = let x = c.deref_mut-parts.result.now in sym (pins_shown c.args.self.now x.tasks x.areas x.rmap c.args.page c.args.frame (seen c.deref_mut-parts.ensures.value c.self.view_is) c.requires)

pub returns-clause-room : goal.returns-clause-room
returns-clause-room g c = on_ok c.pin.result (subst (λ n. n < 65535) (here g c)) c.pin.ensures.room

pub returns-clause-full : goal.returns-clause-full
returns-clause-full g c = if_err c.pin.result (λ error full. (full.0, subst (λ n. 65535 ≤ n) (here g c) full.1)) c.pin.ensures.full

pub returns-clause-ok : goal.returns-clause-ok
returns-clause-ok g c =
    let x = c.deref_mut-parts.result.now in
    let placed = placed_in c.args.self.now x.tasks x.areas x.rmap c.args.page c.args.frame (seen c.deref_mut-parts.ensures.value c.self.view_is) c.requires in
    on_ok c.pin.result
    (λ is. ap (λ r. spaces_view x.tasks x.areas r) is
    ∙ pins_shows x.tasks x.areas x.rmap c.args.page c.args.frame (frame_pins x.rmap c.args.frame + 1) (tied c.deref_mut-parts.ensures.value c.self.invariant) placed
    ∙ (λ i. with_pins_of ((seen c.deref_mut-parts.ensures.value c.self.view_is) i) c.args.page (here g c i + 1)))
    c.pin.ensures.ok
