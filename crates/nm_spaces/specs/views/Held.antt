-- The address spaces while pages of a run are on their way.
use Rattle.std.specs.Prelude.{◌≡◌, ℕ, ◌==◌, Bool, List}
use Rattle.std.specs.List.{list_any}
use Rattle.std.specs.Option.{option_map}
use Rattle.std.specs.Ordering.{nat_cmp}
use Rattle.nm_types.specs.declared.page.Page.{Page}
use Rattle.nm_types.specs.declared.page_move.PageMove.{PageMove}
use Rattle.nm_types.specs.Map.{Map, get}
use Rattle.nm_laws.specs.InFlight.{entry_in_flight}
use Rattle.nm_model.specs.definitions.Areas.{Mapping}
use Rattle.nm_model.specs.definitions.PageTables.{Task, entry_at}
use Rattle.nm_model.specs.definitions.Seen.{sight_in}
use Rattle.nm_rmap.specs.Mappers.{Mappers}
use Rattle.nm_spaces.specs.views.AddressSpaces.{AddressSpacesView, spaces_view}

pub record HeldView : Type 0 where
  -- each process with its page table, by pid, in which the entries of pages on their way are held
  pub tables : Map ℕ Task
  -- what the address spaces are once these entries name the new frames
  pub spaces : AddressSpacesView

-- page tables, areas and reverse map while pages are on their way
abbrev pub held_view : Map ℕ Task → Mapping → Mappers → HeldView
held_view tasks m r = record { tables = tasks; spaces = spaces_view tasks m r }

-- each entry is that for what its process sees: it names the frame of the page, and is held if the page is one of these,
-- whoever maps it
abbrev pub HoldsPages : HeldView → List Page → Type 0
HoldsPages h pages =
    (pid v : ℕ) →
    entry_at h.tables pid v ≡ option_map (entry_in_flight h.spaces.place pages) (sight_in (get nat_cmp h.spaces.processes pid) v)

-- whether one of the pages takes this frame
abbrev pub is_taken : List PageMove → ℕ → Bool
is_taken moves f = list_any (λ t. t.to == f) moves
