use Rattle.std.proofs.Common.{ℕ, ◌≡◌, [], ◌∷◌, ◌++◌, sym, subst, ap, ◌∙◌, refl}
use Rattle.std.specs.Prelude.{Some, IsSome}
use Rattle.std.specs.Option.{option_map}
use Rattle.std.specs.List.{AllByRecursion}
use Rattle.std.specs.Ordering.{nat_cmp}
use Rattle.nm_types.specs.declared.page.Page.{Page}
use Rattle.nm_types.specs.Map.{Map, get, page_cmp}
use Rattle.nm_types.specs.declared.entry.Entry.TheVariants.{Held}
use Rattle.nm_types.proofs.Maps.{page_cmp_total, exact_page, replace_is_set}
use Rattle.nm_model.specs.definitions.Areas.{Mapping, with_frame}
use Rattle.nm_model.specs.definitions.Events.{arrival_of, with_entries}
use Rattle.nm_model.specs.definitions.PageTables.{Task, entry_at}
use Rattle.nm_rmap.specs.Mappers.{Mappers, mappers_of, carry}
use Rattle.nm_laws.specs.InFlight.{entry_in_flight}
use Rattle.nm_model.specs.definitions.Seen.{sight_in}
use Rattle.nm_spaces.specs.views.AddressSpaces.{AddressSpacesView, spaces_view, with_moved}
use Rattle.nm_spaces.specs.views.Held.{HeldView}
use Rattle.nm_spaces.specs.views.ProcessTable.{IsThere, all_replaced}
use Rattle.nm_spaces.specs.definitions.Tied.{IsTied}
use Rattle.nm_spaces.proofs.Boxed.{held_seen, held_tied}
use Rattle.nm_spaces.proofs.Held.HeldEntries.{held_for, named_there, next_moving, hold_tied, hold_shows, hold_entries}
use Rattle.nm_spaces.proofs.Moves.OnePage.{placed_in, spare_in, spare_without}
use Rattle.nm_spaces.proofs.address_spaces.held.HeldSpaces.hold_page.Given.{Over}
use Rattle.nm_spaces.proofs.address_spaces.held.HeldSpaces.hold_page.Goals as goal

pub replace_each-requires : goal.replace_each-requires
replace_each-requires g c =
    let x = c.deref_mut-parts.result.now in
    subst (AllByRecursion (IsThere x.tasks)) (sym c.mappings.ensures.all)
    (named_there x.tasks (mappers_of x.rmap c.args.from) c.args.from ((held_tied c.deref_mut-parts.ensures.value c.self.invariant).mappers c.args.from))

pub carry-requires-clause-unused : goal.carry-requires-clause-unused
carry-requires-clause-unused g c =
    let x = c.deref_mut-parts.result.now in
    let is = ap (λ (h : HeldView). h.spaces) (held_seen c.deref_mut-parts.ensures.value c.self.view_is) in
    let spare = spare_in c.args.self.now.spaces x.tasks x.areas x.rmap c.args.to is c.requires.frame c.requires.spare in
    record {
      mappers = spare_without (with_entries arrival_of x.tasks) x.areas x.rmap c.args.to (held_tied c.deref_mut-parts.ensures.value c.self.invariant) spare;
      pins = (held_tied c.deref_mut-parts.ensures.value c.self.invariant).pinned c.args.to spare.place;
    }

tasks_after : (g : Over) (c : goal.After-self-1 g) → c.replace_each.new.tasks ≡ all_replaced c.deref_mut-parts.result.now.tasks (mappers_of c.deref_mut-parts.result.now.rmap c.args.from) (Held c.args.to)
tasks_after g c = c.replace_each.ensures ∙ ap (λ l. all_replaced c.deref_mut-parts.result.now.tasks l (Held c.args.to)) c.mappings.ensures.all

areas_after : (g : Over) (c : goal.After-self-1 g) → c.move_page.new.self ≡ with_frame c.deref_mut-parts.result.now.areas c.args.page c.args.to
areas_after g c =
    let x = c.deref_mut-parts.result.now in
    let placed = placed_in c.args.self.now.spaces x.tasks x.areas x.rmap c.args.page c.args.from (ap (λ (h : HeldView). h.spaces) (held_seen c.deref_mut-parts.ensures.value c.self.view_is)) c.requires.placed in
    c.move_page.ensures
    ∙ ap (λ place. record (x.areas) { place = place }) (replace_is_set page_cmp_total exact_page x.areas.place c.args.page c.args.to (held_tied c.deref_mut-parts.ensures.value c.self.invariant).places (subst IsSome (sym placed) refl))

pub invariant_of-self : goal.invariant_of-self
invariant_of-self g c =
    let x = c.deref_mut-parts.result.now in
    let is = ap (λ (h : HeldView). h.spaces) (held_seen c.deref_mut-parts.ensures.value c.self.view_is) in
    let placed = placed_in c.args.self.now.spaces x.tasks x.areas x.rmap c.args.page c.args.from is c.requires.placed in
    let spare = spare_in c.args.self.now.spaces x.tasks x.areas x.rmap c.args.to is c.requires.frame c.requires.spare in
    subst (λ (r : Mappers). IsTied (with_entries arrival_of c.replace_each.new.tasks) c.move_page.new.self r) (sym c.carry.ensures)
    (subst (λ (m : Mapping). IsTied (with_entries arrival_of c.replace_each.new.tasks) m (carry x.rmap c.args.from c.args.to)) (sym (areas_after g c))
    (subst (λ (ts : Map ℕ Task). IsTied (with_entries arrival_of ts) (with_frame x.areas c.args.page c.args.to) (carry x.rmap c.args.from c.args.to)) (sym (tasks_after g c))
    (hold_tied x.tasks x.areas x.rmap c.args.page c.args.from c.args.to (held_tied c.deref_mut-parts.ensures.value c.self.invariant) placed spare)))

pub returns-clause-spaces : goal.returns-clause-spaces
returns-clause-spaces g c =
    let x = c.deref_mut-parts.result.now in
    let is = ap (λ (h : HeldView). h.spaces) (held_seen c.deref_mut-parts.ensures.value c.self.view_is) in
    let placed = placed_in c.args.self.now.spaces x.tasks x.areas x.rmap c.args.page c.args.from is c.requires.placed in
    let spare = spare_in c.args.self.now.spaces x.tasks x.areas x.rmap c.args.to is c.requires.frame c.requires.spare in
    (λ i. spaces_view (tasks_after g c i) (areas_after g c i) (c.carry.ensures i))
    ∙ hold_shows x.tasks x.areas x.rmap c.args.page c.args.from c.args.to (held_tied c.deref_mut-parts.ensures.value c.self.invariant) placed spare
    ∙ ap (λ y. with_moved y c.args.page c.args.to) is

pub returns-clause-entries : goal.returns-clause-entries
returns-clause-entries g c pages before pid v =
    let x = c.deref_mut-parts.result.now in
    let y = c.args.self.now.spaces in
    let tied = held_tied c.deref_mut-parts.ensures.value c.self.invariant in
    let is = ap (λ (h : HeldView). h.spaces) (held_seen c.deref_mut-parts.ensures.value c.self.view_is) in
    let placed = placed_in y x.tasks x.areas x.rmap c.args.page c.args.from is c.requires.placed in
    let spare = spare_in y x.tasks x.areas x.rmap c.args.to is c.requires.frame c.requires.spare in
    let apart = subst (λ (z : AddressSpacesView). (p q : Page) (f : ℕ) → get page_cmp z.place p ≡ Some f → get page_cmp z.place q ≡ Some f → p ≡ q) is tied.apart in
    ap (λ (ts : Map ℕ Task). entry_at ts pid v) (tasks_after g c)
    ∙ hold_entries x.tasks x.areas x.rmap c.args.page c.args.from c.args.to tied placed spare pid v
    ∙ ap (λ (h : HeldView). option_map (held_for c.args.from c.args.to) (entry_at h.tables pid v)) (held_seen c.deref_mut-parts.ensures.value c.self.view_is)
    ∙ ap (option_map (held_for c.args.from c.args.to)) (before pid v)
    ∙ next_moving y.place pages c.args.page c.args.from c.args.to c.requires.placed apart (sight_in (get nat_cmp y.processes pid) v)
    ∙ ap (λ (z : AddressSpacesView). option_map (entry_in_flight z.place (pages ++ c.args.page ∷ [])) (sight_in (get nat_cmp z.processes pid) v)) (sym (returns-clause-spaces g c))
