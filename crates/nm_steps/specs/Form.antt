-- The form of a trace: the machine and the steps that data describe.
use Rattle.std.specs.Prelude.{ℕ, ◌^◌, ◌==◌, ◌&&◌, List, [], ◌∷◌, Bool, false, length, nat_lt, nat_le, if◌then◌else◌, Option, Some, None, option_and_then, option_map, codes}
use Rattle.std.specs.List.{fold}
use Rattle.std.specs.Str.{bytes_eq}
use Rattle.std.specs.Result.{result_ok}
use Rattle.std.specs.Ordering.{nat_cmp}
use Rattle.std.specs.BTreeSet.{insert_key}
use Rattle.hex.specs.Hex.{decode_of}
use Rattle.serde_json.specs.Data.{Data, Items, no_items, item}
use Rattle.serde_json.specs.Find.{get, as_number, as_u64, as_bool, as_str, as_array}
use Rattle.nm_types.specs.Layout.{Layout}
use Rattle.nm_types.specs.Refusal.{refusal}
use Rattle.nm_model.specs.definitions.Cut.{run_count}
use Rattle.nm_model.specs.definitions.Touch.{Access, Read, Write}
use Rattle.nm_requests.specs.Calls.{default_limit, Call, Spawn, MapPages, Attach, Unmap, Exit, Pin, Unpin, ReadBytes, WriteBytes, MovePages, MigratePages, Mbind, Offline, Online, Query, FreeList, Pagemap, Vmstat, NumaMaps}

infixl 10 ◌>>=◌
abbrev pub ◌>>=◌ : {A B : Type 0} → Option A → (A → Option B) → Option B
o >>= f = option_and_then f o

-- ---- values

-- a number below a limit
abbrev pub below : ℕ → ℕ → Option ℕ
below limit n = if nat_lt n limit then Some n else None

-- a number of 64 bits
abbrev pub u64_of : Data → Option ℕ
u64_of d = option_and_then as_u64 (as_number d)

-- a number below a limit
abbrev pub number_below : ℕ → Data → Option ℕ
number_below limit d = option_and_then (below limit) (u64_of d)

-- what f reads from each item, if it can read all of them
abbrev pub each : {A : Type 0} → (Data → Option A) → Items → Option (List A)
each f no_items = Some []
each f (item d ds) = f d >>= λ x. each f ds >>= λ xs. Some (x ∷ xs)

-- a set of numbers below 64, given in any order and with repetitions; a set is the list of its numbers in ascending
-- order
abbrev pub set_of : Items → Option (List ℕ)
set_of ds = option_map (fold (insert_key nat_cmp) []) (each (number_below 64) ds)

-- the bytes that a text of hexadecimal digits spells, in either case
abbrev pub hex_bytes : List ℕ → Option (List ℕ)
hex_bytes text = result_ok (decode_of text)

-- ---- values of keys

-- the number at a key
abbrev pub number_at : List ℕ → Data → Option ℕ
number_at key d = option_and_then u64_of (get key d)

-- the number at a key, below 2^32
abbrev pub small_at : List ℕ → Data → Option ℕ
small_at key d = option_and_then (below (2 ^ 32)) (number_at key d)

abbrev pub text_at : List ℕ → Data → Option (List ℕ)
text_at key d = option_and_then as_str (get key d)

-- true or false at a key; false if the key is missing
abbrev pub flag_at : List ℕ → Data → Option Bool
flag_at key d = elim (get key d) [ None ↦ Some false | Some flag ↦ as_bool flag ]

abbrev pub items_at : List ℕ → Data → Option Items
items_at key d = option_and_then as_array (get key d)

abbrev pub numbers_at : List ℕ → Data → Option (List ℕ)
numbers_at key d = option_and_then (each u64_of) (items_at key d)

-- the numbers at a key, each below 2^32
abbrev pub small_numbers_at : List ℕ → Data → Option (List ℕ)
small_numbers_at key d = option_and_then (each (number_below (2 ^ 32))) (items_at key d)

abbrev pub set_at : List ℕ → Data → Option (List ℕ)
set_at key d = option_and_then set_of (items_at key d)

abbrev pub hex_at : List ℕ → Data → Option (List ℕ)
hex_at key d = option_and_then hex_bytes (text_at key d)

-- the number of a process and the address that these keys give
abbrev pub place_at : Data → Option (ℕ × ℕ)
place_at d = do
  pid ← small_at (codes "pid") d
  addr ← number_at (codes "addr") d
  Some (pid, addr)

-- ---- the machine

-- a row of distances, each below 256
abbrev pub row_of : Data → Option (List ℕ)
row_of d = option_and_then (each (number_below (2 ^ 8))) (as_array d)

-- the layout of a trace's machine, if its value has the form of one and the layout has no fault
unfoldable pub machine_of : Data → Option Layout
machine_of d = do
  m ← get (codes "machine") d
  sizes ← small_numbers_at (codes "nodes") m
  distances ← items_at (codes "distance") m >>= each row_of
  let layout : Layout = record { sizes = sizes; distances = distances } in
      elim (refusal layout) [ None ↦ Some layout | Some fault ↦ None ]

-- ---- the limit on runs

-- a number from 1 to the greatest limit
abbrev pub as_limit : ℕ → Option ℕ
as_limit n = if nat_le 1 n && nat_le n default_limit then Some n else None

-- the most requests that a run may have: in version 1 the greatest limit, whatever the trace says; version 2 must give
-- one
unfoldable pub limit_of : Data → Option ℕ
limit_of d = do
  version ← number_at (codes "version") d
  if version == 1 then Some default_limit
      else (if version == 2 then number_at (codes "run_limit") d >>= as_limit else None)

-- ---- reads and writes

-- the read that these keys describe
unfoldable pub read_access : Data → Option Access
read_access d = do
  (pid, addr) ← place_at d
  len ← number_at (codes "len") d
  Some (Read pid addr len)

-- the write that these keys describe
unfoldable pub write_access : Data → Option Access
write_access d = do
  (pid, addr) ← place_at d
  bytes ← hex_at (codes "data") d
  Some (Write pid addr bytes)

-- the access with this name
unfoldable pub access_named : List ℕ → Data → Option Access
access_named op d =
    if bytes_eq op (codes "read") then read_access d
    else (if bytes_eq op (codes "write") then write_access d else None)

-- an access in flight and the number of its run, which is below the number of runs
unfoldable pub during_of : ℕ → Data → Option (ℕ × Access)
during_of runs d = do
  run ← number_at (codes "run") d >>= below runs
  op ← text_at (codes "op") d
  access ← access_named op d
  Some (run, access)

-- the accesses in flight of a step with this many runs; none if the key is missing
abbrev pub during_at : ℕ → Data → Option (List (ℕ × Access))
during_at runs d =
    elim (get (codes "during") d) [ None ↦ Some [] | Some given ↦ as_array given >>= each (during_of runs) ]

-- ---- the kinds of step

unfoldable pub spawn_of : Data → Option Call
spawn_of d = do
  pid ← small_at (codes "pid") d
  uid ← small_at (codes "uid") d
  home ← small_at (codes "home") d
  allowed ← set_at (codes "allowed") d
  privileged ← flag_at (codes "privileged") d
  Some (Spawn pid uid home allowed privileged)

unfoldable pub map_of : Data → Option Call
map_of d = do
  (pid, addr) ← place_at d
  pages ← number_at (codes "pages") d
  shared ← flag_at (codes "shared") d
  Some (MapPages pid addr pages shared)

unfoldable pub attach_of : Data → Option Call
attach_of d = do
  (pid, addr) ← place_at d
  segment ← number_at (codes "segment") d
  offset ← number_at (codes "offset") d
  pages ← number_at (codes "pages") d
  Some (Attach pid addr segment offset pages)

unfoldable pub unmap_of : Data → Option Call
unmap_of d = do
  (pid, addr) ← place_at d
  pages ← number_at (codes "pages") d
  Some (Unmap pid addr pages)

-- the step that makes an access
abbrev pub access_step : Access → Call
access_step (Read pid addr len) = ReadBytes pid addr len
access_step (Write pid addr bytes) = WriteBytes pid addr bytes

-- pages with a node for each, if they are equally many, and at most 16,384
abbrev pub pages_with_nodes : List ℕ → List ℕ → Option (List ℕ × List ℕ)
pages_with_nodes pages nodes = if nat_le (length pages) 16384 && (length pages == length nodes) then Some (pages, nodes) else None

unfoldable pub batch_of : Data → Option (List ℕ × List ℕ)
batch_of d = do
  pages ← numbers_at (codes "pages") d
  nodes ← small_numbers_at (codes "nodes") d
  pages_with_nodes pages nodes

-- the accesses in flight name runs of the batch, none of which has more requests than the limit
unfoldable pub move_pages_of : ℕ → Data → Option Call
move_pages_of limit d = do
  caller ← small_at (codes "caller") d
  pid ← small_at (codes "pid") d
  batch ← batch_of d
  flags ← small_at (codes "flags") d
  during ← during_at (run_count limit batch.1) d
  Some (MovePages caller pid batch.0 batch.1 flags during)

unfoldable pub migrate_pages_of : Data → Option Call
migrate_pages_of d = do
  caller ← small_at (codes "caller") d
  pid ← small_at (codes "pid") d
  old ← set_at (codes "old") d
  new ← set_at (codes "new") d
  Some (MigratePages caller pid old new)

unfoldable pub mbind_of : Data → Option Call
mbind_of d = do
  caller ← small_at (codes "caller") d
  addr ← number_at (codes "addr") d
  len ← number_at (codes "len") d
  mode ← small_at (codes "mode") d
  nodes ← set_at (codes "nodes") d
  flags ← small_at (codes "flags") d
  Some (Mbind caller addr len mode nodes flags)

-- a query of these pages, if they are at most 16,384
abbrev pub question : ℕ → ℕ → List ℕ → ℕ → Option Call
question caller pid pages flags = if nat_le (length pages) 16384 then Some (Query caller pid pages flags) else None

unfoldable pub query_of : Data → Option Call
query_of d = do
  caller ← small_at (codes "caller") d
  pid ← small_at (codes "pid") d
  pages ← numbers_at (codes "pages") d
  flags ← small_at (codes "flags") d
  question caller pid pages flags

-- the step with this name, where a run has at most `limit` requests
unfoldable pub step_named : ℕ → List ℕ → Data → Option Call
step_named limit op d =
    if bytes_eq op (codes "spawn") then spawn_of d
    else (if bytes_eq op (codes "map") then map_of d
    else (if bytes_eq op (codes "attach") then attach_of d
    else (if bytes_eq op (codes "unmap") then unmap_of d
    else (if bytes_eq op (codes "exit") then option_map Exit (small_at (codes "pid") d)
    else (if bytes_eq op (codes "pin") then option_map (λ (pid, addr). Pin pid addr) (place_at d)
    else (if bytes_eq op (codes "unpin") then option_map (λ (pid, addr). Unpin pid addr) (place_at d)
    else (if bytes_eq op (codes "read") then option_map access_step (read_access d)
    else (if bytes_eq op (codes "write") then option_map access_step (write_access d)
    else (if bytes_eq op (codes "move_pages") then move_pages_of limit d
    else (if bytes_eq op (codes "migrate_pages") then migrate_pages_of d
    else (if bytes_eq op (codes "mbind") then mbind_of d
    else (if bytes_eq op (codes "offline") then option_map Offline (small_at (codes "node") d)
    else (if bytes_eq op (codes "online") then option_map Online (small_at (codes "node") d)
    else (if bytes_eq op (codes "query") then query_of d
    else (if bytes_eq op (codes "free") then option_map FreeList (small_at (codes "node") d)
    else (if bytes_eq op (codes "pagemap") then option_map Pagemap (small_at (codes "pid") d)
    else (if bytes_eq op (codes "vmstat") then Some Vmstat
    else (if bytes_eq op (codes "numa_maps") then option_map NumaMaps (small_at (codes "pid") d)
    else None))))))))))))))))))

unfoldable pub step_of : ℕ → Data → Option Call
step_of limit d = text_at (codes "op") d >>= λ op. step_named limit op d
