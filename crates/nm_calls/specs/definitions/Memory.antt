-- Which calls allocate.
use Rattle.std.specs.Prelude.{◌≡◌, ◌⊎◌, ◌+◌, ◌/◌, ◌<◌, ◌^◌, true, length, Some}
use Rattle.std.specs.List.{list_any}
use Rattle.nm_types.specs.declared.page.Page.{Page}
use Rattle.nm_types.specs.declared.sight.Sight.TheVariants.{Sees}
use Rattle.nm_types.specs.Nodes.{is_in}
use Rattle.nm_types.specs.State.{State, free_list}
use Rattle.nm_areas.specs.Lines.{lines_of}
use Rattle.nm_areas.specs.Splits.{HasSplit}
use Rattle.nm_model.specs.definitions.AreaRefusal.{overlaps}
use Rattle.nm_model.specs.definitions.Areas.{page_count}
use Rattle.nm_model.specs.definitions.PageTables.{entries_of}
use Rattle.nm_model.specs.definitions.Seen.{sight_at}
use Rattle.nm_calls.specs.definitions.Mbind.{has_move}
use Rattle.nm_requests.specs.Calls.{Call, Unmap, Exit, Pin, Unpin, WriteBytes, MovePages, Query, FreeList, Pagemap, Vmstat, NumaMaps, Mbind, Offline, Online}

-- what has to hold where a call asks for memory: there is something to unmap (an area, and a page that has a frame or an
-- area that is split), to move or to list, it sets the policy of some bytes and moves pages or splits an area, or it
-- writes to a page that the process does not see yet
abbrev pub MayAllocate : State → Call → Type 0
MayAllocate s (Unmap pid addr pages) =
    (list_any (overlaps pid (addr / 4096) (addr / 4096 + pages)) s.areas ≡ true)
    × ((0 < length s.place) ⊎ (HasSplit s.areas pid (addr / 4096) ⊎ HasSplit s.areas pid (addr / 4096 + pages)))
MayAllocate s (Exit pid) = (list_any (overlaps pid 0 (2 ^ 35)) s.areas ≡ true) × (0 < length s.place)
MayAllocate s (Pin pid addr) = ⊥
MayAllocate s (Unpin pid addr) = ⊥
MayAllocate s (WriteBytes pid addr bytes) = (page : Page) → sight_at s pid (addr / 4096) ≡ Some (Sees page) → ⊥
MayAllocate s (MovePages caller pid pages nodes flags during) = 0 < length pages + length during
MayAllocate s (Query caller pid pages flags) = 0 < length pages
MayAllocate s (Mbind caller addr len mode nodes flags) =
    (0 < len) × ((has_move flags ≡ true) ⊎ (HasSplit s.areas caller (addr / 4096) ⊎ HasSplit s.areas caller (addr / 4096 + page_count len)))
MayAllocate s (Offline node) = is_in s.online node ≡ true
MayAllocate s (Online node) = ⊥
MayAllocate s (FreeList node) = 0 < length (free_list s node)
MayAllocate s (Pagemap pid) = 0 < length (entries_of s pid)
MayAllocate s Vmstat = ⊥
MayAllocate s (NumaMaps pid) = 0 < length (lines_of s.segments s.areas pid)
MayAllocate s call = Unit {0}
