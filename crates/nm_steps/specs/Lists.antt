-- The items of lists.
use Rattle.std.specs.Prelude.{ℕ, List, map}
use Rattle.serde_json.specs.Data.{Data, number, unsigned, Items}
use Rattle.serde_json.specs.View.{items_of}
use Rattle.nm_steps.specs.declared.json_value.JsonList.{JsonList}
use Rattle.nm_steps.specs.declared.json_value.JsonList.TheVariants.{Numbers, Values}

-- the items of a list of values, each seen as its data
abbrev pub items_seen : {V : Type 0} → (V → Data) → List V → Items
items_seen as_data vs = items_of (map as_data vs)

-- a whole number
abbrev pub whole : ℕ → Data
whole n = number (unsigned n)

-- the items of a list, which are whole numbers, or values that are each seen as its data
abbrev pub list_seen : {V : Type 0} → (V → Data) → JsonList V → Items
list_seen as_data (Numbers ns) = items_seen whole ns.now
list_seen as_data (Values vs) = items_seen as_data vs.now
