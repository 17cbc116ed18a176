-- Nodes, the frames that each owns, and the distances between nodes.
use Rattle.std.specs.Prelude.{ℕ, suc, ◌+◌, ◌-◌, ◌≤◌, ◌<◌, nat_lt, nat_le, ◌==◌, Bool, true, ◌&&◌, List, [], ◌∷◌, All, length, take, sum, slice_index, slice_index_or, IsTrue, if◌then◌else◌}

pub record Layout : Type 0 where
  -- how many frames each node owns
  pub sizes : List ℕ
  -- a row of distances for each node
  pub distances : List (List ℕ)

-- how many nodes there are
abbrev pub node_count : Layout → ℕ
node_count g = length g.sizes

-- how many frames the nodes own in total
abbrev pub frame_count : Layout → ℕ
frame_count g = sum g.sizes

-- the node that owns a frame, where nodes of these sizes own consecutive ranges of frames
abbrev pub owner : List ℕ → ℕ → ℕ
owner [] frame = 0
owner (size ∷ sizes) frame = if nat_lt frame size then 0 else suc (owner sizes (frame - size))

abbrev pub node_of : Layout → ℕ → ℕ
node_of g frame = owner g.sizes frame

-- the frame lies in the node's range
pub record Owns (g : Layout) (node frame : ℕ) : Type 0 where
  pub from : sum (take node g.sizes) ≤ frame
  pub below : frame < sum (take (node + 1) g.sizes)

-- the distance from one node to another; the way back may differ
abbrev pub distance : Layout → ℕ → ℕ → ℕ
distance g from to = slice_index (slice_index_or g.distances from []) to

-- the distance from a node to itself is 10, and to another node at least 11
abbrev pub is_distance : ℕ → ℕ → ℕ → Bool
is_distance own to distance = if to == own then distance == 10 else nat_le 11 distance

-- the distances from a node to the nodes from `to` on are valid
abbrev pub are_distances : ℕ → ℕ → List ℕ → Bool
are_distances own to [] = true
are_distances own to (d ∷ ds) = is_distance own to d && are_distances own (to + 1) ds

-- a node's row has a valid distance to each of the `count` nodes
abbrev pub is_row : ℕ → ℕ → List ℕ → Bool
is_row count own row = (length row == count) && are_distances own 0 row

-- the rows of the nodes from `own` on are valid
abbrev pub are_rows : ℕ → ℕ → List (List ℕ) → Bool
are_rows count own [] = true
are_rows count own (row ∷ rows) = is_row count own row && are_rows count (own + 1) rows

-- each node has a valid row
abbrev pub is_square : Layout → Bool
is_square g = (length g.distances == node_count g) && are_rows (node_count g) 0 g.distances

-- a machine has 1 to 64 nodes, each with at least one frame, at most 16,384 frames in total, and a valid row of
-- distances for each node
pub record IsMachine (g : Layout) : Type 0 where
  pub some_node : 0 < node_count g
  pub few_nodes : node_count g ≤ 64
  pub no_empty_node : All (λ size. 0 < size) g.sizes
  pub few_frames : frame_count g ≤ 16384
  pub square : IsTrue (is_square g)
