-- The state that the parts of a machine show together.
use Rattle.std.specs.Prelude.{ℕ, List}
use Rattle.nm_types.specs.declared.page.Page.{Page}
use Rattle.nm_types.specs.Map.{Map, with_values}
use Rattle.nm_types.specs.Layout.{Layout}
use Rattle.nm_types.specs.State.{Process, State}
use Rattle.nm_model.specs.views.Table.{Table}
use Rattle.nm_model.specs.definitions.Frames.{Store, bytes_of}
use Rattle.nm_spaces.specs.views.AddressSpaces.{AddressSpacesView, table_of}
use Rattle.nm_pool.specs.views.Frames.{FramesView}

-- frames, the pages in them, and each page's number of pins
pub record PagedFrames : Type 0 where
  pub layout : Layout
  pub place : Map Page ℕ
  pub pins : Map Page ℕ
  -- the bytes of each frame
  pub frames : Store
  -- each node's free frames, front first
  pub free : List (List ℕ)
  -- the frames that a run's pages have left, and how many there is room for
  pub vacated : List ℕ
  pub room : ℕ

-- the bytes of each page that has a frame
abbrev pub bytes_in : Store → Map Page ℕ → Map Page (List ℕ)
bytes_in frames place = with_values (λ page frame. bytes_of frames frame) place

-- the state of these processes, areas, frames, online nodes and totals
abbrev pub state_of_parts : Map ℕ Process → Table → PagedFrames → List ℕ → ℕ → ℕ → State
state_of_parts processes areas paged online moved failed =
    record {
      layout = paged.layout;
      processes = processes;
      areas = areas.areas;
      segments = areas.segments;
      next_segment = areas.next;
      place = paged.place;
      bytes = bytes_in paged.frames paged.place;
      pins = paged.pins;
      free = paged.free;
      online = online;
      moved = moved;
      failed = failed;
    }

-- the frames with the pages in them
abbrev pub paged_frames : AddressSpacesView → FramesView → PagedFrames
paged_frames y k =
    record {
      layout = k.layout;
      place = y.place;
      pins = y.pins;
      frames = k.frames;
      free = k.free;
      vacated = k.vacated;
      room = k.room;
    }

-- the state of these address spaces and frames
abbrev pub shown_by : AddressSpacesView → FramesView → List ℕ → ℕ → ℕ → State
shown_by y k online moved failed = state_of_parts y.processes (table_of y) (paged_frames y k) online moved failed
