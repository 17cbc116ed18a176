-- What a look at a page number finds, by the entry and the area there.
use Rattle.std.proofs.Common.{◌≡◌, ℕ, true, ap, sym, ◌∙◌}
use Rattle.std.specs.Prelude.{Option, Some}
use Rattle.std.specs.Option.{option_map}
use Rattle.std.specs.Ordering.{nat_cmp}
use Rattle.nm_types.specs.declared.page.Page.{Page}
use Rattle.nm_types.specs.declared.sight.Sight.TheVariants.{Sees}
use Rattle.nm_types.specs.Map.{Map, get, page_cmp}
use Rattle.nm_types.specs.State.{page_at}
use Rattle.nm_types.proofs.Cases.{some_is}
use Rattle.nm_model.specs.definitions.Seen.{sight_in, look_at_place, look_by_sight, look_behind, look_in}
use Rattle.nm_types.specs.declared.entry.Entry.{Entry}
use Rattle.nm_model.specs.definitions.Areas.{Mapping}
use Rattle.nm_rmap.specs.Mappers.{Mappers}
use Rattle.nm_spaces.specs.views.AddressSpaces.{AddressSpacesView, spaces_view}
use Rattle.nm_model.specs.definitions.PageTables.{sight_of, page_here}
use Rattle.nm_model.specs.definitions.PageTables.{Task, entry_at}
use Rattle.nm_spaces.specs.views.ProcessTable.{names}
use Rattle.nm_spaces.specs.definitions.Tied.{IsTied}
use Rattle.nm_spaces.proofs.Tied.Beginnings.{seen_here, seen_page}

module _ (y : AddressSpacesView) (tasks : Map ℕ Task) (m : Mapping) (r : Mappers) (pid v : ℕ) (page : Page) (is : spaces_view tasks m r ≡ y) (at : Some page ≡ page_at y.areas pid v) where
  -- where an area is, it is what is seen there
  pub looked_there : (o : Option Entry) → o ≡ entry_at tasks pid v → look_in y.processes y.areas y.place y.pins pid v ≡ look_by_sight y.processes y.place y.pins (option_map (sight_of m.areas pid v) o)
  looked_there o there =
      ap (λ shown. look_behind y.processes y.place y.pins shown (sight_in (get nat_cmp y.processes pid) v)) (sym at)
      ∙ ap (λ sight. look_by_sight y.processes y.place y.pins sight) (sym (seen_here y tasks m r pid v o is there))

  -- the frame that an entry names is the place of the page there
  pub placed_there : (f : ℕ) (e : Entry) → IsTied tasks m r → Some e ≡ entry_at tasks pid v → names f (Some e) ≡ true → get page_cmp y.place page ≡ Some f
  placed_there f e h there named =
      let s = h.shows f pid v (sym (ap (names f) there) ∙ named) in
      let same = some_is (at ∙ ap (λ (y : AddressSpacesView). page_at y.areas pid v) (sym is) ∙ s.1) in
      ap (λ (y : AddressSpacesView). get page_cmp y.place page) (sym is) ∙ ap (get page_cmp m.place) same ∙ s.2

  -- the page there is looked at
  pub looked_at : (e : Entry) → Some e ≡ entry_at tasks pid v → sight_of m.areas pid v e ≡ Sees (page_here m.areas pid v)
      → look_in y.processes y.areas y.place y.pins pid v ≡ look_at_place y.processes y.pins page (get page_cmp y.place page)
  looked_at e there sees =
      ap (λ shown. look_behind y.processes y.place y.pins shown (sight_in (get nat_cmp y.processes pid) v)) (sym at)
      ∙ ap (λ sight. look_by_sight y.processes y.place y.pins sight) (sym (seen_page y tasks m r pid v e page is there sees at))
