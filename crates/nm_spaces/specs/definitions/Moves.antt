-- The moves of a run.
use Rattle.std.specs.Prelude.{◌≡◌, ◌<◌, List, [], ◌∷◌, Some}
use Rattle.std.specs.List.{fold}
use Rattle.nm_types.specs.declared.page.Page.{Page}
use Rattle.nm_types.specs.Map.{get, page_cmp}
use Rattle.nm_types.specs.declared.page_move.PageMove.{PageMove}
use Rattle.nm_spaces.specs.views.AddressSpaces.{AddressSpacesView, with_moved}

-- one page after another gets its new frame
abbrev pub all_moved : AddressSpacesView → List PageMove → AddressSpacesView
all_moved y taken = fold (λ z t. with_moved z t.page t.to) y taken

-- each of these pages in turn leaves its frame and takes one that no page has
abbrev pub CanRemap : AddressSpacesView → List PageMove → Type 0
CanRemap y [] = Unit {0}
CanRemap y (t ∷ taken) =
    (get page_cmp y.place t.page ≡ Some t.from) × (t.to < y.frames) × ((q : Page) → get page_cmp y.place q ≡ Some t.to → ⊥)
    × CanRemap (with_moved y t.page t.to) taken
