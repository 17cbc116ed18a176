-- An area and the counts of its pages, as text.
use Rattle.std.specs.Prelude.{ℕ, ◌+◌, Bool, List, [], ◌++◌, codes, decimal, slice_index, ◌==◌, if◌then◌else◌}
use Rattle.std.specs.List.{flat_map}
use Rattle.nm_types.specs.Nodes.{up_from}
use Rattle.nm_calls.specs.declared.maps.Tally.{Tally}
use Rattle.nm_types.specs.State.{State, PlacedArea}
use Rattle.nm_types.specs.declared.located_page.LocatedPage.{LocatedPage}
use Rattle.nm_areas.specs.declared.lines.Area.{Area as Listed}
use Rattle.nm_model.specs.definitions.Seen.{located_between}
use Rattle.nm_calls.specs.definitions.Maps.{area_text, count_text_from}

-- an area of a process, from how the areas are listed
abbrev pub placed_of : ℕ → Listed → PlacedArea
placed_of pid line = ((pid, line.first), record { pages = line.pages; policy = line.policy; page = line.page })

-- the pages that the process sees in it
abbrev pub pages_of : State → ℕ → Listed → List LocatedPage
pages_of s pid line = located_between s pid line.first (line.first + line.pages)

-- the same as text
abbrev pub line_text : State → ℕ → Listed → List ℕ
line_text s pid line = area_text s (placed_of pid line)

-- a comma, if it is wanted
abbrev pub comma : Bool → List ℕ
comma wanted = if wanted then codes "," else []

-- how many pages are on a node, if any are
abbrev pub node_count_text : ℕ → ℕ → List ℕ
node_count_text node pages = count_text_from 1 (codes " N" ++ decimal node ++ codes "=") pages

-- how many pages are on each of the first nodes, where any are
abbrev pub nodes_text : List ℕ → ℕ → List ℕ
nodes_text on count =
    flat_map (λ node. node_count_text node (slice_index on node)) (up_from 0 count)

-- how many pages there are, the greatest number of processes that see one, and the nodes that they are on
abbrev pub counts_text : ℕ → ℕ → List ℕ → List ℕ
counts_text pages most nodes =
    if pages == 0 then []
    else (codes " anon=" ++ decimal pages) ++ count_text_from 2 (codes " mapmax=") most ++ nodes ++ codes " kernelpagesize_kB=4"

-- the counts, if there are pages
abbrev pub tally_text : Tally → ℕ → List ℕ
tally_text t nodes = counts_text t.pages t.most (nodes_text t.on nodes)
