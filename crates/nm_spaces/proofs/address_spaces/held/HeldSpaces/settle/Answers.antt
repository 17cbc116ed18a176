use Rattle.std.proofs.Common.{ℕ, ap, sym, ◌∙◌}
use Rattle.nm_types.specs.Map.{Map}
use Rattle.nm_model.specs.definitions.PageTables.{Task, entry_at}
use Rattle.nm_spaces.specs.views.AddressSpaces.{spaces_view}
use Rattle.nm_spaces.specs.views.Held.{HeldView}
use Rattle.nm_spaces.proofs.Boxed.{held_seen}
use Rattle.nm_spaces.proofs.Held.HeldEntries.{shown_arrived}
use Rattle.nm_spaces.proofs.address_spaces.held.HeldSpaces.settle.Goals as goal

pub arrive-requires-clause-among : goal.arrive-requires-clause-among
arrive-requires-clause-among g c f pid v h = c.requires.among f pid v (ap (λ (y : HeldView). entry_at y.tables pid v) (sym (held_seen c.deref_mut-inner.ensures.value c.self.view_is)) ∙ h)

pub returns : goal.returns
returns g c =
    let x = c.deref_mut-inner.result.now in
    ap (λ (ts : Map ℕ Task). spaces_view ts x.areas x.rmap) c.arrive.ensures ∙ shown_arrived x.tasks x.areas x.rmap ∙ ap (λ (y : HeldView). y.spaces) (held_seen c.deref_mut-inner.ensures.value c.self.view_is)
