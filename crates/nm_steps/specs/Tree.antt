-- The data of a tree of borrowed text.
use Rattle.std.specs.Prelude.{ℕ, List, [], ◌∷◌, map, Option, Some, None}
use Rattle.std.specs.Borrow.{Bor}
use Rattle.json.specs.Token.{Token}
use Rattle.json.specs.Json.{items, value, parse_map}
use Rattle.serde_json.specs.Data.{Num, Data, null, boolean, number, string, array, object, Items, item, Members, no_members, put}
use Rattle.serde_json.specs.Read.{number_of, of_items, converted}
use Rattle.serde_json.specs.View.{items_of}
use Rattle.nm_steps.specs.Lists.{items_seen, whole}
use Rattle.nm_steps.specs.declared.tree.Tree.{Tree, fold-Tree}
use Rattle.nm_steps.specs.declared.tree.Tree.TheOpen.{Tree-F}

-- a number; null if it is out of range
abbrev pub number_or_null : Option Num → Data
number_or_null None = null
number_or_null (Some n) = number n

-- the members, with these put in one after another: of a key that occurs twice, the last value stays
abbrev pub put_all : List (Bor (List ℕ) × Data) → Members → Members
put_all [] found = found
put_all (m ∷ ms) found = put_all ms (put m.0.now m.1 found)

-- one level, with each value inside already seen as its data
abbrev pub view_step : Tree-F Data → Data
view_step Tree-F.Null = null
view_step (Tree-F.Bool b) = boolean b
view_step (Tree-F.Whole n) = whole n
view_step (Tree-F.Number s) = number_or_null (number_of s.now)
view_step (Tree-F.Text s) = string s.now
view_step (Tree-F.Numbers v) = array (items_seen whole v.items)
view_step (Tree-F.List v) = array (items_of v.items)
view_step (Tree-F.Object v) = object (put_all v.items no_members)

abbrev pub view : Tree → Data
view = fold-Tree Data view_step

abbrev pub items_view : List Tree → Items
items_view vs = items_seen view vs

-- the members of an object, in order
abbrev pub members_view : List (Bor (List ℕ) × Tree) → Members
members_view ms = put_all (map (λ m. (m.0, view m.1)) ms) no_members

-- the items of a list that begins with these
abbrev pub items_before : List Data → Items → Items
items_before [] rest = rest
items_before (d ∷ ds) rest = item d (items_before ds rest)

-- the list that these tokens are after an opening bracket, where these items have been read; the number bounds the items
abbrev pub list_after : ℕ → ℕ → List Data → List Token → Option (Data × List Token)
list_after depth n ds ts = parse_map array (parse_map (items_before ds) (converted of_items (items (value depth) n ts)))
