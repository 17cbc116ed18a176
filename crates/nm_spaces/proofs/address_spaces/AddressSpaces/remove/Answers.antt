use Rattle.std.proofs.Common.{ℕ, ◌≡◌, ap, sym, subst, ◌∙◌}
use Rattle.nm_types.specs.State.{page_at}
use Rattle.nm_types.specs.Map.{Map}
use Rattle.nm_model.specs.definitions.Areas.{Mapping}
use Rattle.nm_model.specs.definitions.Areas.{areas_left, page_outside}
use Rattle.nm_model.specs.definitions.PageTables.{Task}
use Rattle.nm_spaces.specs.views.ProcessTable.{without_entries}
use Rattle.nm_spaces.specs.views.AddressSpaces.{AddressSpacesView, spaces_view, without_range}
use Rattle.nm_spaces.specs.definitions.Tied.{IsTied}
use Rattle.nm_spaces.proofs.Boxed.{seen, tied}
use Rattle.nm_spaces.proofs.Tied.RemovedRange.{unpinned_pages, removed_tied, removed_shows}
use Rattle.nm_spaces.proofs.address_spaces.AddressSpaces.remove.Given.{Over}
use Rattle.nm_spaces.proofs.address_spaces.AddressSpaces.remove.Goals as goal

shown_outside : (g : Over) (c : goal.After-self-2-1 g) (q v : ℕ)
    → page_at (areas_left c.deref_mut-parts.result.now.areas.areas c.args.pid c.args.range.first c.args.range.end) q v ≡ page_outside c.deref_mut-parts.result.now.areas.areas c.args.pid c.args.range.first c.args.range.end q v
shown_outside g c q v = ap (λ (n : Mapping). page_at n.areas q v) (sym c.in_ok-freed.ensures.ok) ∙ c.in_ok-freed.ensures.pages q v

pub invariant_of-self-2 : goal.invariant_of-self-2
invariant_of-self-2 g c =
    let x = c.deref_mut-parts.result.now in
    let a = c.args in
    subst (λ (ts : Map ℕ Task). IsTied ts c.remove.new.self c.clear_between.new.rmap) (sym c.clear_between.ensures.tasks)
    (subst (λ (n : Mapping). IsTied (without_entries x.tasks a.pid a.range.first a.range.end) n c.clear_between.new.rmap) (sym c.in_ok-freed.ensures.ok)
    (removed_tied x.tasks x.areas x.rmap c.clear_between.new.rmap a.pid a.range.first a.range.end (tied c.deref_mut-parts.ensures.value c.self.invariant) (shown_outside g c) c.clear_between.ensures.rmap
    (unpinned_pages a.self.now x.tasks x.areas x.rmap a.pid a.range.first a.range.end (seen c.deref_mut-parts.ensures.value c.self.view_is) c.requires.unpinned)))

pub returns-clause-ok : goal.returns-clause-ok
returns-clause-ok g c =
    let x = c.deref_mut-parts.result.now in
    let a = c.args in
    (λ i. spaces_view (c.clear_between.ensures.tasks i) (c.in_ok-freed.ensures.ok i) c.clear_between.new.rmap)
    ∙ removed_shows x.tasks x.areas x.rmap c.clear_between.new.rmap a.pid a.range.first a.range.end (tied c.deref_mut-parts.ensures.value c.self.invariant) (shown_outside g c) c.clear_between.ensures.rmap
    ∙ ap (λ (y : AddressSpacesView). without_range y a.pid a.range.first a.range.end) (seen c.deref_mut-parts.ensures.value c.self.view_is)
