use Rattle.std.proofs.Common.{sym, subst, ap, ◌∙◌}
use Rattle.std.specs.Prelude.{IsSome}
use Rattle.nm_types.specs.Map.{get, page_cmp}
use Rattle.nm_model.specs.definitions.Areas.{Mapping}
use Rattle.nm_spaces.specs.views.AddressSpaces.{AddressSpacesView, spaces_view}
use Rattle.nm_spaces.specs.definitions.Tied.{IsTied}
use Rattle.nm_spaces.proofs.Boxed.{seen, tied}
use Rattle.nm_spaces.proofs.Moves.OnePage.{placed_in}
use Rattle.nm_spaces.proofs.Tied.PinChanges.{pins_shown}
use Rattle.nm_spaces.proofs.Tied.UndoneTouches.{placed_some, unplaced_tied, unplaced_shows}
use Rattle.nm_spaces.proofs.address_spaces.AddressSpaces.unplace.Goals as goal

pub drop_frame-requires : goal.drop_frame-requires
drop_frame-requires g c = subst (λ (y : AddressSpacesView). IsSome (get page_cmp y.place c.args.page)) (sym (seen c.deref_mut-parts.ensures.value c.self.view_is)) c.requires.placed

pub invariant_of-self : goal.invariant_of-self
invariant_of-self g c =
    let x = c.deref_mut-parts.result.now in
    let y = c.args.self.now in
    let f = placed_some (get page_cmp y.place c.args.page) c.requires.placed in
    let placed = placed_in y x.tasks x.areas x.rmap c.args.page f.0 (seen c.deref_mut-parts.ensures.value c.self.view_is) f.1 in
    let free = sym (pins_shown y x.tasks x.areas x.rmap c.args.page f.0 (seen c.deref_mut-parts.ensures.value c.self.view_is) f.1) ∙ c.requires.unpinned in
    subst (λ (m : Mapping). IsTied x.tasks m x.rmap) (sym c.drop_frame.ensures)
    (unplaced_tied y x.tasks x.areas x.rmap c.args.page f.0 (tied c.deref_mut-parts.ensures.value c.self.invariant) (seen c.deref_mut-parts.ensures.value c.self.view_is) placed free c.requires.unseen)

pub returns : goal.returns
returns g c =
    let x = c.deref_mut-parts.result.now in
    let y = c.args.self.now in
    let f = placed_some (get page_cmp y.place c.args.page) c.requires.placed in
    let placed = placed_in y x.tasks x.areas x.rmap c.args.page f.0 (seen c.deref_mut-parts.ensures.value c.self.view_is) f.1 in
    let free = sym (pins_shown y x.tasks x.areas x.rmap c.args.page f.0 (seen c.deref_mut-parts.ensures.value c.self.view_is) f.1) ∙ c.requires.unpinned in
    ap (λ (m : Mapping). spaces_view x.tasks m x.rmap) c.drop_frame.ensures
    ∙ unplaced_shows y x.tasks x.areas x.rmap c.args.page f.0 (tied c.deref_mut-parts.ensures.value c.self.invariant) (seen c.deref_mut-parts.ensures.value c.self.view_is) placed free c.requires.unseen
