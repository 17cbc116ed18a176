-- The decisions of a run in closed form.
use Rattle.std.specs.Prelude.{◌≡◌, ℕ, ◌<◌, ℤ, pos, Bool, List, [], ◌∷◌, ◌++◌, map, length, take, slice_get, Some, if◌then◌else◌}
use Rattle.std.specs.List.{list_any}
use Rattle.nm_types.specs.declared.errno.Errno.TheVariants.{Enomem}
use Rattle.nm_types.specs.declared.page.Page.{Page}
use Rattle.nm_types.specs.Map.{same_page}
use Rattle.nm_types.specs.declared.request.Class.{Class}
use Rattle.nm_types.specs.declared.request.Class.TheVariants.{Status, Move}
use Rattle.nm_model.specs.definitions.Status.{code}
use Rattle.nm_types.specs.declared.page_move.PageMove.{PageMove}

-- whether a page is one of these
abbrev pub is_one_of : List Page → Page → Bool
is_one_of pages page = list_any (same_page page) pages

-- the pages that are to move and are not among these, each once, with the frame that it leaves, in the order in which
-- they are first named
abbrev pub new_pages : List Page → List Class → List (Page × ℕ)
new_pages met [] = []
new_pages met (Status status ∷ classes) = new_pages met classes
new_pages met (Move page from ∷ classes) =
    if is_one_of met page then new_pages met classes else (page, from) ∷ new_pages (met ++ page ∷ []) classes

-- a page with the frame that it leaves and the frame that it takes
abbrev pub taking : (Page × ℕ) × ℕ → PageMove
taking e = record { page = e.0.0; from = e.0.1; to = e.1 }

-- the pages that move: of those that are to, as many as there are free frames
abbrev pub lucky : List Class → List ℕ → List Page
lucky classes front = map (λ e. e.0) (take (length front) (new_pages [] classes))

-- the status of a request if these pages move
abbrev pub status_by : List Page → ℕ → Class → ℤ
status_by moving target (Status status) = status
status_by moving target (Move page from) = if is_one_of moving page then pos target else code Enomem

-- no request before this index is for the page
abbrev pub IsNew : List Class → ℕ → Page → Type 0
IsNew classes j page = (k from : ℕ) → k < j → slice_get classes k ≡ Some (Move page from) → ⊥
