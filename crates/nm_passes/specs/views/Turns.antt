-- Pages for one node at the front of a list.
use Rattle.std.specs.Prelude.{ℕ, ◌==◌, List, [], ◌∷◌, length}
use Rattle.std.specs.List.{take_while}
use Rattle.nm_policy.specs.declared.targets.Destination.{Destination}

-- the node of the first page
abbrev pub first_node : List Destination → ℕ
first_node [] = 0
first_node (page ∷ pages) = page.to

-- how many pages at the front go to the same node as the first
abbrev pub same_node : List Destination → ℕ
same_node pages = length (take_while (λ page. page.to == first_node pages) pages)
