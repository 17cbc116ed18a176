-- A process's areas as text, as in numa(7).
use Rattle.std.specs.Prelude.{ℕ, ◌+◌, ◌-◌, max, ◌==◌, nat_lt, List, [], ◌∷◌, ◌++◌, map, length, replicate, count_by, String, string_bytes, false, codes, decimal, if◌then◌else◌}
use Rattle.std.specs.Fmt.{digits}
use Rattle.std.specs.List.{filter, flat_map, fold, join_with_byte}
use Rattle.nm_types.specs.declared.area.Policy.{Policy}
use Rattle.nm_types.specs.declared.area.Policy.TheVariants.{Default, Preferred, Bind, Interleave, Local}
use Rattle.nm_types.specs.Layout.{node_count}
use Rattle.nm_types.specs.Nodes.{up_from}
use Rattle.nm_types.specs.State.{State, PlacedArea}
use Rattle.nm_model.specs.definitions.Seen.{users}
use Rattle.nm_types.specs.declared.located_page.LocatedPage.{LocatedPage}
use Rattle.nm_model.specs.definitions.Seen.{located_between}

-- a node extends the range after it, or is a range of its own
abbrev pub node_in_front : ℕ → List (ℕ × ℕ) → List (ℕ × ℕ)
node_in_front n [] = (n, n) ∷ []
node_in_front n (r ∷ rs) = if n + 1 == r.0 then (n, r.1) ∷ rs else (n, n) ∷ r ∷ rs

-- the longest ranges of consecutive nodes of a set, each as its first and last node
abbrev pub stretches : List ℕ → List (ℕ × ℕ)
stretches [] = []
stretches (n ∷ nodes) = node_in_front n (stretches nodes)

-- a single node, or the first and last of several
abbrev pub stretch_text : ℕ × ℕ → List ℕ
stretch_text r = if r.0 == r.1 then decimal r.0 else decimal r.0 ++ codes "-" ++ decimal r.1

-- a set of nodes, such as 0-1,3
abbrev pub set_text : List ℕ → List ℕ
set_text nodes = join_with_byte 44 (map stretch_text (stretches nodes))

-- a policy, such as bind:0-1,3
unfoldable pub policy_text : Policy → List ℕ
policy_text Default = codes "default"
policy_text (Preferred node) = codes "prefer:" ++ decimal node
policy_text (Bind nodes) = codes "bind:" ++ set_text nodes
policy_text (Interleave nodes) = codes "interleave:" ++ set_text nodes
policy_text Local = codes "local"

-- the address of a page, in at least eight hexadecimal digits: those of its page number, padded with zeros to five,
-- and three zeros
abbrev pub address_text : ℕ → List ℕ
address_text vpn = let ds = digits 16 false vpn in replicate (5 - length ds) 48 ++ ds ++ codes "000"

-- the greatest number of processes that see any of these pages
abbrev pub most_users : State → List LocatedPage → ℕ
most_users s pages = fold (λ most p. max most (length (users s.processes p.page))) 0 pages

-- a word and a count, if it is as great as this or greater
abbrev pub count_text_from : ℕ → List ℕ → ℕ → List ℕ
count_text_from least word n = if nat_lt n least then [] else word ++ decimal n

-- how many pages are on a node, if any are
abbrev pub node_text : List LocatedPage → ℕ → List ℕ
node_text ps node = count_text_from 1 (codes " N" ++ decimal node ++ codes "=") (count_by (λ p. p.node == node) ps)

-- what is shown of the pages in an area, if there are any
abbrev pub pages_text : State → List LocatedPage → List ℕ
pages_text s [] = []
pages_text s (p ∷ ps) =
    (codes " anon=" ++ decimal (length (p ∷ ps))) ++ count_text_from 2 (codes " mapmax=") (most_users s (p ∷ ps))
    ++ flat_map (node_text (p ∷ ps)) (up_from 0 (node_count s.layout)) ++ codes " kernelpagesize_kB=4"

-- an area as text
abbrev pub area_text : State → PlacedArea → List ℕ
area_text s a =
    let pages = located_between s a.0.0 a.0.1 (a.0.1 + a.1.pages) in
    address_text a.0.1 ++ codes " " ++ policy_text a.1.policy ++ pages_text s pages

-- the bytes of lines
abbrev pub lines_shown : {A : Type 0} → List (String A) → List (List ℕ)
lines_shown lines = map (λ line. string_bytes line) lines

-- a process's areas as text, in address order
abbrev pub numa_maps : State → ℕ → List (List ℕ)
numa_maps s pid = map (area_text s) (filter (λ a. a.0.0 == pid) s.areas)
