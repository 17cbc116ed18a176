-- For which values reading takes memory of the host.
use Rattle.std.specs.Prelude.{◌≡◌, ◌⊎◌, ℕ, ◌%◌, ◌^◌, ◌==◌, ◌<◌, List, length, Bool, true, false, ◌&&◌, ◌||◌, Option, Some, None, is_some, option_map, codes}
use Rattle.std.specs.Str.{bytes_eq, is_utf8}
use Rattle.json.specs.Lex.{tokens}
use Rattle.json.specs.Reads.{opens}
use Rattle.serde_json.specs.Data.{Data, Items, no_items, item}
use Rattle.serde_json.specs.Find.{get, as_array}
use Rattle.nm_steps.specs.Form.{◌>>=◌, below, u64_of, number_below, number_at, small_at, numbers_at, small_numbers_at, items_at, text_at, place_at, row_of, during_of, limit_of, step_of}

-- a text with a byte
abbrev pub IsSomeText : List ℕ → Type 0
IsSomeText bytes = (is_utf8 bytes ≡ true) × (0 < length bytes)

-- a text is longer than the room that there is for it, or begins with a list or an object
abbrev pub NeedsMemory : ℕ → List ℕ → Type 0
NeedsMemory room text = (room < length text) ⊎ (opens (tokens text) ≡ true)

-- whether there is a list with an item
abbrev pub has_items : Option Items → Bool
has_items None = false
has_items (Some no_items) = false
has_items (Some (item d ds)) = true

-- whether there is a first item, and f reads it
abbrev pub starts : {A : Type 0} → (Data → Option A) → Items → Bool
starts f no_items = false
starts f (item d ds) = is_some (f d)

-- the same of a list that may be missing
abbrev pub starts_at : {A : Type 0} → (Data → Option A) → Option Items → Bool
starts_at f None = false
starts_at f (Some ds) = starts f ds

-- whether there is a first item, and it passes the test
abbrev pub begins : (Data → Bool) → Items → Bool
begins such no_items = false
begins such (item d ds) = such d

-- the same of a list that may be missing
abbrev pub begins_at : (Data → Bool) → Option Items → Bool
begins_at such None = false
begins_at such (Some ds) = begins such ds

-- whether there is a text, of an even length
abbrev pub has_pairs : Option (List ℕ) → Bool
has_pairs None = false
has_pairs (Some digits) = length digits % 2 == 0

-- whether a write can be read up to its bytes, and their digits are in pairs
abbrev pub write_has_pairs : Data → Bool
write_has_pairs d = is_some (place_at d) && has_pairs (text_at (codes "data") d)

-- whether the access with this name is a write of that kind
abbrev pub access_takes_memory : List ℕ → Data → Bool
access_takes_memory op d = bytes_eq op (codes "write") && write_has_pairs d

-- whether a batch is read up to the first number of a list
abbrev pub batch_starts : Data → Bool
batch_starts d =
    starts_at u64_of (items_at (codes "pages") d)
    || (is_some (numbers_at (codes "pages") d) && starts_at (number_below (2 ^ 32)) (items_at (codes "nodes") d))

-- whether a step's caller and process are read
abbrev pub names_both : Data → Bool
names_both d = is_some (small_at (codes "caller") d) && is_some (small_at (codes "pid") d)

-- whether a move is read up to the first number of its batch
abbrev pub move_takes_memory : Data → Bool
move_takes_memory d = names_both d && batch_starts d

-- whether a query is read up to the first number of its pages
abbrev pub query_takes_memory : Data → Bool
query_takes_memory d = names_both d && starts_at u64_of (items_at (codes "pages") d)

-- whether the step with this name is a write whose digits are in pairs, or a batch or a query that can be read up to
-- the first item of a list
abbrev pub takes_memory : List ℕ → Data → Bool
takes_memory op d =
    access_takes_memory op d
    || (bytes_eq op (codes "move_pages") && move_takes_memory d)
    || (bytes_eq op (codes "query") && query_takes_memory d)

-- ---- items of lists: those that are read, and those whose reading takes memory

-- whether an item is a row, or can be read as one up to its first number
abbrev pub row_allocates : Data → Bool
row_allocates d = is_some (row_of d) || starts_at (number_below (2 ^ 8)) (as_array d)

-- whether something is there, and true
abbrev pub holds : Option Bool → Bool
holds None = false
holds (Some b) = b

-- whether it names a run, below the number of runs
abbrev pub names_run : ℕ → Data → Bool
names_run runs d = is_some (number_at (codes "run") d >>= below runs)

-- whether an item is an access in flight, or can be read as one up to its bytes
abbrev pub flight_allocates : ℕ → Data → Bool
flight_allocates runs d =
    is_some (during_of runs d)
    || (names_run runs d && holds (option_map (λ op. access_takes_memory op d) (text_at (codes "op") d)))

-- whether an item is a step, or can be read as one up to what takes memory
abbrev pub step_allocates : ℕ → Data → Bool
step_allocates limit d =
    is_some (step_of limit d) || holds (option_map (λ op. takes_memory op d) (text_at (codes "op") d))

-- ---- traces

-- whether a trace's machine is read up to the first number of its nodes, or up to what takes memory in its first row
abbrev pub machine_takes_memory : Data → Bool
machine_takes_memory d =
    elim (get (codes "machine") d) [
      | None ↦ false
      | Some m ↦
          starts_at (number_below (2 ^ 32)) (items_at (codes "nodes") m)
          || (is_some (small_numbers_at (codes "nodes") m) && begins_at row_allocates (items_at (codes "distance") m))
    ]

-- whether a trace's limit can be read, and the first item of its steps is a step, or can be read as one up to what
-- takes memory
abbrev pub steps_take_memory : Data → Bool
steps_take_memory d = holds (option_map (λ limit. begins_at (step_allocates limit) (items_at (codes "steps") d)) (limit_of d))
