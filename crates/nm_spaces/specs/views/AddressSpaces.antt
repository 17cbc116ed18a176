-- The address spaces of all processes: what each sees, its areas, and the frames and pins of pages.
use Rattle.std.specs.Prelude.{ℕ, Bool, false, ◌==◌, nat_lt, [], if◌then◌else◌, length, Option, Some, None}
use Rattle.std.specs.Option.{unwrap_or}
use Rattle.std.specs.Ordering.{nat_cmp}
use Rattle.std.specs.List.{fold}
use Rattle.nm_types.specs.declared.page.Page.{Page}
use Rattle.nm_types.specs.declared.area.Area.{Area}
use Rattle.nm_types.specs.declared.area.Segment.{Segment}
use Rattle.nm_types.specs.declared.sight.Sight.{Sight}
use Rattle.nm_types.specs.declared.sight.Sight.TheVariants.{Sees}
use Rattle.nm_types.specs.Map.{Map, get, set, replace, without, with_values, page_cmp}
use Rattle.nm_types.specs.State.{Process}
use Rattle.nm_model.specs.views.Table.{Table}
use Rattle.nm_model.specs.definitions.Areas.{Mapping, areas_left, segments_left, pages_gone, place_left}
use Rattle.nm_rmap.specs.Mappers.{Mappers, frame_pins}
use Rattle.nm_model.specs.definitions.PageTables.{Task, process_of}
use Rattle.nm_model.specs.definitions.Effect.{seeing, blind_at, seeing_before, blind_between}

pub record AddressSpacesView : Type 0 where
  -- by pid
  pub processes : Map ℕ Process
  -- by pid and first page number
  pub areas : Map (ℕ × ℕ) Area
  pub segments : Map ℕ Segment
  -- the number that the next segment gets
  pub next : ℕ
  -- of each page that has a frame: the frame, and its number of pins
  pub place : Map Page ℕ
  pub pins : Map Page ℕ
  -- how many frames there are
  pub frames : ℕ

-- the areas and the segments
abbrev pub table_of : AddressSpacesView → Table
table_of y = record { areas = y.areas; segments = y.segments; next = y.next }

-- the areas, the segments, and the frames of pages
abbrev pub mapped_of : AddressSpacesView → Mapping
mapped_of y = record { areas = y.areas; segments = y.segments; next = y.next; place = y.place }

-- the pins of each page that has a frame
abbrev pub pins_in : Mappers → Map Page ℕ → Map Page ℕ
pins_in r place = with_values (λ page frame. frame_pins r frame) place

-- page tables, areas and the reverse map, as one view
abbrev pub spaces_view : Map ℕ Task → Mapping → Mappers → AddressSpacesView
spaces_view tasks m r =
    record {
      processes = with_values (process_of m.areas) tasks;
      areas = m.areas;
      segments = m.segments;
      next = m.next;
      place = m.place;
      pins = pins_in r m.place;
      frames = length r.mappings;
    }

-- `frames` frames, and nothing else
abbrev pub no_spaces : ℕ → AddressSpacesView
no_spaces frames =
    record { processes = []; areas = []; segments = []; next = 0; place = []; pins = []; frames = frames }

-- the areas, the segments and their number may change
abbrev pub with_mapped : AddressSpacesView → Mapping → AddressSpacesView
with_mapped y m = record y { areas = m.areas; segments = m.segments; next = m.next }

-- a process sees this at a page number
abbrev pub with_seen : AddressSpacesView → ℕ → Process → ℕ → Sight → AddressSpacesView
with_seen y pid p v sight = record y { processes = replace nat_cmp y.processes pid (seeing p v sight) }

-- a process sees nothing at a page number
abbrev pub without_seen : AddressSpacesView → ℕ → Process → ℕ → AddressSpacesView
without_seen y pid p v = record y { processes = replace nat_cmp y.processes pid (blind_at p v) }

-- a process sees the page of zeros at a page number, or nothing
abbrev pub with_before : AddressSpacesView → ℕ → Process → ℕ → Bool → AddressSpacesView
with_before y pid p v zero = record y { processes = replace nat_cmp y.processes pid (seeing_before p v zero) }

-- a page loses its frame and its pins
abbrev pub without_page : AddressSpacesView → Page → AddressSpacesView
without_page y page =
    record y { place = without page_cmp y.place page; pins = without page_cmp y.pins page }

-- a page gets a frame, and a process sees the page
abbrev pub with_new_page : AddressSpacesView → ℕ → Process → ℕ → Page → ℕ → AddressSpacesView
with_new_page y pid p v page frame =
    record (with_seen y pid p v (Sees page)) {
      place = set page_cmp y.place page frame;
      pins = set page_cmp y.pins page 0;
    }

-- a page's frame is replaced
abbrev pub with_moved : AddressSpacesView → Page → ℕ → AddressSpacesView
with_moved y page frame = record y { place = set page_cmp y.place page frame }

-- the number of pins of a page
abbrev pub pins_here : AddressSpacesView → Page → ℕ
pins_here y page = unwrap_or (get page_cmp y.pins page) 0

-- whether there is a page, and it has a pin
abbrev pub is_page_pinned : AddressSpacesView → Option Page → Bool
is_page_pinned y None = false
is_page_pinned y (Some page) = nat_lt 0 (pins_here y page)

-- the number of pins of a page is set
abbrev pub with_pins_of : AddressSpacesView → Page → ℕ → AddressSpacesView
with_pins_of y page pins = record y { pins = replace page_cmp y.pins page pins }

-- a process loses what it sees from one page number up to another and the parts of its areas there, and pages that no
-- area covers lose their frames and pins
abbrev pub without_range : AddressSpacesView → ℕ → ℕ → ℕ → AddressSpacesView
without_range y pid first end =
    let areas = areas_left y.areas pid first end in
    let gone = pages_gone y.areas pid first end in
    record y {
      processes = with_values (λ q p. if q == pid then blind_between first end p else p) y.processes;
      areas = areas;
      segments = segments_left y.segments areas;
      place = fold (place_left areas) y.place gone;
      pins = fold (place_left areas) y.pins gone;
    }
