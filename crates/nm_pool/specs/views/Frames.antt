-- The frames of a machine: the pages in them, the free ones, and their bytes.
use Rattle.std.specs.Prelude.{◌≡◌, ℕ, ◌<◌, Bool, false, if◌then◌else◌, Option, option_map, sum, List, [], ◌∷◌, ◌++◌, length, map, slice_index_or}
use Rattle.std.specs.List.{fold, zip}
use Rattle.nm_types.specs.Layout.{Layout, node_count, frame_count, owner}
use Rattle.nm_types.specs.Nodes.{is_in}
use Rattle.nm_model.specs.definitions.Frames.{Store, IsHome, Pool, bytes_of, list_of, with_back}
use Rattle.nm_pool.specs.views.Populated.{IsPopulated}
use Rattle.nm_frames.specs.Stores.{StoreView}

-- frames without their pages
pub record FramesView : Type 0 where
  pub layout : Layout
  -- the bytes of each frame that are in memory: none before its first use
  pub frames : Store
  -- each node's free frames, front first
  pub free : List (List ℕ)
  -- the frames that a run's pages have left, and how many there is room for
  pub vacated : List ℕ
  pub room : ℕ

-- the bytes of a frame that are in memory: none while it has no buffer
abbrev pub bytes_in_memory : Option (List ℕ) × Bool → Option (List ℕ)
bytes_in_memory (bytes, has_buffer) = if has_buffer then bytes else option_map (λ _. []) bytes

-- the bytes of all frames of a store that are in memory
abbrev pub in_memory : StoreView → Store
in_memory store = map bytes_in_memory (zip store.bytes store.buffers)

-- each node has a list, and each frame a buffer, and all buffers are home
pub record HasAllFrames (k : FramesView) : Type 0 where
  pub lists : length k.free ≡ node_count k.layout
  pub buffers : length k.frames ≡ frame_count k.layout
  pub home : (frame : ℕ) → frame < frame_count k.layout → IsHome k.frames frame

-- each node has a list, and each frame a place for its buffer, home or not
pub record HasAllPlaces (k : FramesView) : Type 0 where
  pub lists : length k.free ≡ node_count k.layout
  pub buffers : length k.frames ≡ frame_count k.layout

-- frames that are home stay so, and those that have their bytes in memory keep them
pub record KeepsBytes (old new : Store) : Type 0 where
  pub as_many : length new ≡ length old
  pub home : (frame : ℕ) → IsHome old frame → IsHome new frame
  pub bytes : (frame : ℕ) → IsPopulated old frame → bytes_of new frame ≡ bytes_of old frame

-- the free frames of a node
abbrev pub free_on : FramesView → ℕ → List ℕ
free_on k node = slice_index_or k.free node []

-- the free frames of all nodes
abbrev pub pool_of : FramesView → Pool
pool_of k = record { sizes = k.layout.sizes; lists = k.free }

-- one frame after another is appended to its own node's list
abbrev pub with_freed : Pool → List ℕ → Pool
with_freed p frames = fold with_back p frames

-- each of these frames, in order, belongs to a node and is not free before it is freed
abbrev pub CanFree : Pool → List ℕ → Type 0
CanFree p [] = Unit {0}
CanFree p (frame ∷ frames) =
    (frame < sum p.sizes) × (is_in (list_of p (owner p.sizes frame)) frame ≡ false) × CanFree (with_back p frame) frames

-- each of these frames, from last to first, is this node's and not free before it goes to the front of its list
abbrev pub CanReturn : Pool → ℕ → List ℕ → Type 0
CanReturn p node [] = Unit {0}
CanReturn p node (frame ∷ frames) =
    (frame < sum p.sizes) × (owner p.sizes frame ≡ node) × (is_in (frames ++ list_of p node) frame ≡ false)
    × CanReturn p node frames

-- the frames that were left become free
abbrev pub all_freed : FramesView → FramesView
all_freed k = record k { free = (with_freed (pool_of k) k.vacated).lists; vacated = [] }
