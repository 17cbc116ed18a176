-- The processes with their page tables.
use Rattle.std.specs.Prelude.{ℕ, Bool, false, ◌==◌, nat_lt, nat_le, ◌||◌, if◌then◌else◌, List, [], ◌∷◌, Option, Some, None, IsSome}
use Rattle.std.specs.List.{filter, fold}
use Rattle.std.specs.Option.{unwrap_or, option_map}
use Rattle.std.specs.Ordering.{nat_cmp}
use Rattle.nm_types.specs.Map.{Map, get, set, replace, without, with_values}
use Rattle.nm_types.specs.declared.entry.Entry.{Entry}
use Rattle.nm_types.specs.declared.entry.Entry.TheVariants.{Zero, Frame, Held}
use Rattle.nm_types.specs.declared.process.ProcessInfo.{ProcessInfo}
use Rattle.nm_model.specs.definitions.PageTables.{Task, entry_at}

-- the processes in order of pid, from a list in any order
abbrev pub by_pid : List (ℕ × Task) → Map ℕ Task
by_pid [] = []
by_pid (e ∷ es) = set nat_cmp (by_pid es) e.0 e.1

-- a process that has touched nothing
abbrev pub new_task : ProcessInfo → Task
new_task info = record { info = info; table = [] }

-- what `spawn` fixes of a process
abbrev pub task_info : Task → ProcessInfo
task_info t = t.info

-- a process's page table
abbrev pub task_table : Task → Map ℕ Entry
task_table t = t.table

-- the page table of a process, or an empty one if there is no such process
abbrev pub entries_in : Map ℕ Task → ℕ → Map ℕ Entry
entries_in tasks pid = unwrap_or (option_map task_table (get nat_cmp tasks pid)) []

-- the frame that an entry names, for a page on its way the one that it takes; none for the page of zeros
abbrev pub frame_named : Entry → Option ℕ
frame_named Zero = None
frame_named (Frame f) = Some f
frame_named (Held f) = Some f

-- whether an entry names a frame
abbrev pub names : ℕ → Option Entry → Bool
names f None = false
names f (Some Zero) = false
names f (Some (Frame g)) = g == f
names f (Some (Held g)) = g == f

-- whether a process has an entry at a page number
abbrev pub IsThere : Map ℕ Task → ℕ × ℕ → Type 0
IsThere tasks spot = IsSome (entry_at tasks spot.0 spot.1)

-- a table with another entry at a page number that has one
abbrev pub with_other_entry : Task → ℕ → Entry → Task
with_other_entry t v e = record t { table = replace nat_cmp t.table v e }

-- a table without the entry at a page number
abbrev pub without_entry : Task → ℕ → Task
without_entry t v = record t { table = without nat_cmp t.table v }

-- another entry of a process, if it exists
abbrev pub replaced_in : Map ℕ Task → Option Task → ℕ → ℕ → Entry → Map ℕ Task
replaced_in tasks None pid v e = tasks
replaced_in tasks (Some t) pid v e = replace nat_cmp tasks pid (with_other_entry t v e)

-- another entry at a page number of a process
abbrev pub put_entry : Map ℕ Task → Entry → ℕ × ℕ → Map ℕ Task
put_entry tasks e spot = replaced_in tasks (get nat_cmp tasks spot.0) spot.0 spot.1 e

-- another entry at all these page numbers
abbrev pub all_replaced : Map ℕ Task → List (ℕ × ℕ) → Entry → Map ℕ Task
all_replaced tasks mappings e = fold (λ ts spot. put_entry ts e spot) tasks mappings

-- the entries at all these page numbers name this frame
abbrev pub with_frame_at_all : Map ℕ Task → List (ℕ × ℕ) → ℕ → Map ℕ Task
with_frame_at_all tasks mappings frame = all_replaced tasks mappings (Frame frame)

-- a table without the entries from one page number up to another
abbrev pub cleared_between : ℕ → ℕ → Task → Task
cleared_between first end t = record t { table = filter (λ e. nat_lt e.0 first || nat_le end e.0) t.table }

-- a process has no entries from one page number up to another
abbrev pub without_entries : Map ℕ Task → ℕ → ℕ → ℕ → Map ℕ Task
without_entries tasks pid first end = with_values (λ q t. if q == pid then cleared_between first end t else t) tasks
