-- Frames with the pages that are in them, and what touches and moves make of them.
use Rattle.std.specs.Prelude.{◌≡◌, ℕ, ◌<◌, List, [], ◌∷◌, ◌++◌, length, drop, replicate, slice_index, slice_index_or, slice_set, Some}
use Rattle.std.specs.List.Sorted.{IsStrictlySortedBy}
use Rattle.std.specs.Map.{keys_of}
use Rattle.nm_types.specs.declared.page.Page.{Page}
use Rattle.nm_types.specs.Map.{page_cmp, set}
use Rattle.nm_types.specs.Layout.{frame_count}
use Rattle.nm_model.specs.definitions.Frames.{IsHome, bytes_of}
use Rattle.nm_model.specs.definitions.Sound.{FramesAreOnce}
use Rattle.nm_engine.specs.views.Shown.{PagedFrames}
use Rattle.nm_pool.specs.views.Frames.{with_freed}

-- each frame is free, vacated or the place of one page, and its bytes are home
pub record HasItsFrames (x : PagedFrames) : Type 0 where
  pub in_order : IsStrictlySortedBy page_cmp (keys_of x.place)
  pub once : FramesAreOnce x.layout x.place x.free x.vacated
  pub buffers : length x.frames ≡ frame_count x.layout
  pub home : (frame : ℕ) → frame < frame_count x.layout → IsHome x.frames frame

abbrev pub free_of : PagedFrames → ℕ → List ℕ
free_of x node = slice_index_or x.free node []

-- a page gets the front frame of a node, with zeros in it
abbrev pub stock_page : PagedFrames → Page → ℕ → PagedFrames
stock_page x page node =
    let frame = slice_index (free_of x node) 0 in
    record x {
      place = set page_cmp x.place page frame;
      pins = set page_cmp x.pins page 0;
      frames = slice_set x.frames frame (Some (replicate 4096 0));
      free = slice_set x.free node (drop 1 (free_of x node));
    }

-- a page goes from a frame to the front frame of a node, with its bytes
abbrev pub restock_page : PagedFrames → Page → ℕ → ℕ → PagedFrames
restock_page x page from node =
    let frame = slice_index (free_of x node) 0 in
    record x {
      place = set page_cmp x.place page frame;
      frames = slice_set x.frames frame (Some (bytes_of x.frames from));
      free = slice_set x.free node (drop 1 (free_of x node));
      vacated = x.vacated ++ from ∷ [];
    }

-- the vacated frames are free
abbrev pub free_all : PagedFrames → PagedFrames
free_all x = record x { free = (with_freed (record { sizes = x.layout.sizes; lists = x.free }) x.vacated).lists; vacated = [] }
