-- What is known of the parts of address spaces, where they are reached through their box.
use Rattle.std.proofs.Common.{◌≡◌, sym, subst, ap, ◌∙◌}
use Rattle.nm_model.specs.definitions.Events.{arrival_of, with_entries}
use Rattle.nm_spaces.specs.declared.address_spaces.SpaceParts.{SpaceParts}
use Rattle.nm_spaces.specs.views.AddressSpaces.{AddressSpacesView, spaces_view}
use Rattle.nm_spaces.specs.views.Held.{HeldView, held_view}
use Rattle.nm_spaces.specs.definitions.Tied.{IsTied}

pub seen : {A : Type 0} {p q : SpaceParts A} {y : AddressSpacesView} → p ≡ q → spaces_view q.tasks q.areas q.rmap ≡ y → spaces_view p.tasks p.areas p.rmap ≡ y
seen is view = ap (λ s. spaces_view s.tasks s.areas s.rmap) is ∙ view

pub tied : {A : Type 0} {p q : SpaceParts A} → p ≡ q → IsTied q.tasks q.areas q.rmap → IsTied p.tasks p.areas p.rmap
tied is = subst (λ s. IsTied s.tasks s.areas s.rmap) (sym is)

pub held_seen : {A : Type 0} {p q : SpaceParts A} {y : HeldView} → p ≡ q → held_view q.tasks q.areas q.rmap ≡ y → held_view p.tasks p.areas p.rmap ≡ y
held_seen is view = ap (λ s. held_view s.tasks s.areas s.rmap) is ∙ view

pub held_tied : {A : Type 0} {p q : SpaceParts A} → p ≡ q → IsTied (with_entries arrival_of q.tasks) q.areas q.rmap → IsTied (with_entries arrival_of p.tasks) p.areas p.rmap
held_tied is = subst (λ s. IsTied (with_entries arrival_of s.tasks) s.areas s.rmap) (sym is)
