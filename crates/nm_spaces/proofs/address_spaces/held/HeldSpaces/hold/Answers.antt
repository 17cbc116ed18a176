use Rattle.std.proofs.Common.{refl, ◌∙◌}
use Rattle.nm_spaces.proofs.Held.HeldEntries.{settled_arrived, entry_shown, none_moving}
use Rattle.nm_spaces.proofs.address_spaces.held.HeldSpaces.hold.Goals as goal

pub invariant_of-held : goal.invariant_of-held
invariant_of-held g c =
    let x = c.spaces.inside.parts.value in
    settled_arrived x.tasks x.areas x.rmap c.spaces.invariant

pub hold_pages-requires-clause-none : goal.hold_pages-requires-clause-none
hold_pages-requires-clause-none g c pid v =
    let x = c.spaces.inside.parts.value in
    entry_shown x.tasks x.areas x.rmap c.spaces.invariant _ refl pid v ∙ none_moving _ _
