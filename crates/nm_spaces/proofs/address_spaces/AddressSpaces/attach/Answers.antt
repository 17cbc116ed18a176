use Rattle.std.proofs.Common.{ap}
use Rattle.nm_model.specs.definitions.Areas.{with_area, new_area}
use Rattle.nm_model.specs.definitions.Areas.{Mapping}
use Rattle.nm_model.specs.definitions.AreaRefusal.{stretch_refusal}
use Rattle.nm_spaces.proofs.Boxed.{seen, tied}
use Rattle.nm_spaces.proofs.Tied.AreaChanges.{IsShownStill, still_same, still_tied, still_shows_at, still_with_new, attach_room, from_makes}
use Rattle.nm_spaces.proofs.address_spaces.AddressSpaces.attach.Given.{Over}
use Rattle.nm_spaces.proofs.address_spaces.AddressSpaces.attach.Goals as goal

still : (g : Over) (c : goal.After-self-1 g) → IsShownStill c.deref_mut-parts.result.now.areas c.attach.new.self
still g c =
    let m = c.deref_mut-parts.result.now.areas in
    let n = c.attach.new.self in
    let x = c.args in
    from_makes c.attach.result m n (with_area m x.pid x.addr x.segment x.offset x.pages) (stretch_refusal m x.pid x.addr x.segment x.offset x.pages)
    (λ fine is over. still_with_new m n x.pid x.addr (new_area x.segment x.offset x.pages) (attach_room m x.pid x.addr x.segment x.offset x.pages fine) (ap (λ (n : Mapping). n.place) is) over)
    (λ is. still_same m n is) c.attach.ensures.done c.attach.ensures.over

pub invariant_of-self : goal.invariant_of-self
invariant_of-self g c =
    let x = c.deref_mut-parts.result.now in
    still_tied x.tasks x.areas c.attach.new.self x.rmap (tied c.deref_mut-parts.ensures.value c.self.invariant) (still g c)

pub returns-clause-same : goal.returns-clause-same
returns-clause-same g c =
    let x = c.deref_mut-parts.result.now in
    still_shows_at x.tasks x.areas c.attach.new.self x.rmap (tied c.deref_mut-parts.ensures.value c.self.invariant) (still g c) c.args.self.now (seen c.deref_mut-parts.ensures.value c.self.view_is)
