-- Frames: their bytes, and each node's free frames.
use Rattle.std.specs.Prelude.{◌≡◌, ℕ, ◌+◌, ◌<◌, List, [], ◌++◌, length, take, drop, slice_index_or, Option, None, IsSome, unwrap_or}
use Rattle.std.specs.Prelude.{◌==◌, true, ◌∷◌, sum, slice_set}
use Rattle.std.specs.List.{IsDistinct}
use Rattle.nm_types.specs.Layout.{owner}
use Rattle.nm_types.specs.Nodes.{up_from, is_in}

abbrev pub Store : Type 0
Store = List (Option (List ℕ))

-- the bytes of a frame that is home
abbrev pub bytes_of : Store → ℕ → List ℕ
bytes_of store frame = unwrap_or (slice_index_or store frame None) []

-- the bytes with some overwritten from an index on
abbrev pub overwrite : List ℕ → ℕ → List ℕ → List ℕ
overwrite old at new = take at old ++ new ++ drop (at + length new) old

-- the frame exists, and its bytes are in the store
pub record IsHome (store : Store) (frame : ℕ) : Type 0 where
  pub in_range : frame < length store
  pub here : IsSome (slice_index_or store frame None)

-- the frame exists, and its bytes are out of the store
pub record IsOut (store : Store) (frame : ℕ) : Type 0 where
  pub in_range : frame < length store
  pub taken : slice_index_or store frame None ≡ None

pub record Pool : Type 0 where
  -- how many frames each node owns
  pub sizes : List ℕ
  -- each node's free frames, front first
  pub lists : List (List ℕ)

-- the free frames of a node
abbrev pub list_of : Pool → ℕ → List ℕ
list_of p node = slice_index_or p.lists node []

-- each node's frames in ascending order, where the first node's first frame is given
abbrev pub all_frames : ℕ → List ℕ → List (List ℕ)
all_frames first [] = []
all_frames first (size ∷ sizes) = up_from first size ∷ all_frames (first + size) sizes

-- all frames of nodes of these sizes are free
abbrev pub new_pool : List ℕ → Pool
new_pool sizes = record { sizes = sizes; lists = all_frames 0 sizes }

-- the pool with another list for a node
abbrev pub with_list : Pool → ℕ → List ℕ → Pool
with_list p node frames = record { sizes = p.sizes; lists = slice_set p.lists node frames }

-- the pool without the front of a node's list
abbrev pub without_front : Pool → ℕ → Pool
without_front p node = with_list p node (drop 1 (list_of p node))

-- the pool with another frame at the end of its own node's list
abbrev pub with_back : Pool → ℕ → Pool
with_back p frame = let node = owner p.sizes frame in with_list p node (list_of p node ++ frame ∷ [])

-- the pool with another frame at the front of its own node's list
abbrev pub with_front : Pool → ℕ → Pool
with_front p frame = let node = owner p.sizes frame in with_list p node (frame ∷ list_of p node)

-- each node has a list, of its own frames only, without repetition
pub record IsPool (p : Pool) : Type 0 where
  pub as_many : length p.lists ≡ length p.sizes
  pub in_machine : (node frame : ℕ) → is_in (list_of p node) frame ≡ true → frame < sum p.sizes
  pub own : (node frame : ℕ) → is_in (list_of p node) frame ≡ true → owner p.sizes frame ≡ node
  pub distinct : (node : ℕ) → IsDistinct (λ a b. a == b) (list_of p node)
