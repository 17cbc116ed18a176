-- Reads and writes, on page tables and buffers.
use Rattle.std.specs.Prelude.{ℕ, ◌/◌, ◌%◌, Bool, true, false, List, [], ◌∷◌, ◌++◌, length, drop, replicate, slice_index, slice_index_or}
use Rattle.std.specs.Prelude.{slice_set, Option, Some, None, Result, Ok, Err, if◌then◌else◌}
use Rattle.std.specs.Ordering.{nat_cmp}
use Rattle.nm_types.specs.declared.page.Page.{Page}
use Rattle.nm_types.specs.declared.errno.Errno.{Errno}
use Rattle.nm_types.specs.declared.errno.Errno.TheVariants.{Enomem}
use Rattle.nm_types.specs.Map.{Map, get, set, replace, page_cmp}
use Rattle.nm_types.specs.declared.entry.Entry.{Entry}
use Rattle.nm_types.specs.declared.entry.Entry.TheVariants.{Zero, Frame, Held as OnItsWay}
use Rattle.nm_model.specs.definitions.Order.{first_touch_order}
use Rattle.nm_model.specs.definitions.Frames.{Store, bytes_of, overwrite}
use Rattle.nm_model.specs.definitions.PageTables.{Task, entry_at, with_entry}
use Rattle.nm_model.specs.definitions.Memory.{stretch_of}
use Rattle.nm_model.specs.definitions.Areas.{is_shared}
use Rattle.nm_model.specs.definitions.Touch.{AccessSite, shown_at, site, first_free, Access, Read, Write}
use Rattle.nm_model.specs.definitions.Touch.{AccessAnswer, Bytes, Done, Held, Refused, site_of_access}
use Rattle.nm_model.specs.definitions.RunMachine.{RunMachine, state_of}

-- whether the buffer of a frame is out
abbrev pub is_out : Option (List ℕ) → Bool
is_out None = true
is_out (Some bytes) = false

-- whether a page with this frame, if it has one, is on its way to another
abbrev pub is_leaving : Store → Option ℕ → Bool
is_leaving buf None = false
is_leaving buf (Some f) = is_out (slice_index_or buf f None)

-- an access is held if the entry there is; if there is no entry, it is held if the page shown there is on its way
abbrev pub is_held_by : RunMachine → AccessSite → Option Entry → Bool
is_held_by m at (Some Zero) = false
is_held_by m at (Some (Frame f)) = false
is_held_by m at (Some (OnItsWay f)) = true
is_held_by m at None = is_leaving m.buf (get page_cmp m.place (shown_at at))

-- the same, unless the access is refused
abbrev pub is_held_at : RunMachine → Result AccessSite Errno → Bool
is_held_at m (Err e) = false
is_held_at m (Ok at) = is_held_by m at (entry_at m.tasks at.pid at.vpn)

-- a process's table with another entry
abbrev pub set_in : Map ℕ Task → Option Task → ℕ → ℕ → Entry → Map ℕ Task
set_in tasks None pid v e = tasks
set_in tasks (Some t) pid v e = replace nat_cmp tasks pid (with_entry t v e)

-- the process's entry at this page number is set
abbrev pub with_entry_at : RunMachine → AccessSite → Entry → RunMachine
with_entry_at m at e = record m { tasks = set_in m.tasks (get nat_cmp m.tasks at.pid) at.pid at.vpn e }

-- a page gets the front frame of a node, and its buffer is cleared
abbrev pub with_cleared_page : RunMachine → Page → ℕ → RunMachine
with_cleared_page m page node =
    let frames = slice_index_or m.free node [] in
    let frame = slice_index frames 0 in
    record m {
      place = set page_cmp m.place page frame;
      pins = set page_cmp m.pins page 0;
      buf = slice_set m.buf frame (Some (replicate 4096 0));
      free = slice_set m.free node (drop 1 frames);
    }

-- the page shown there gets the front frame of the node, and the entry names it; ENOMEM if there is no node
abbrev pub allocate_entry : RunMachine → AccessSite → Option ℕ → Result RunMachine Errno
allocate_entry m at None = Err Enomem
allocate_entry m at (Some node) =
    Ok (with_entry_at (with_cleared_page m (shown_at at) node) at (Frame (slice_index (slice_index_or m.free node []) 0)))

-- the same, with the first node in order that has a free frame
abbrev pub fill_entry : RunMachine → AccessSite → Result RunMachine Errno
fill_entry m at =
    let process = at.process in
    let order = first_touch_order m.layout m.online process.home process.allowed at.area.1.policy (shown_at at).index in
    allocate_entry m at (first_free m.free order)

-- a page that others may show keeps its frame, or gets one
abbrev pub share_entry : RunMachine → AccessSite → Option ℕ → Result RunMachine Errno
share_entry m at (Some f) = Ok (with_entry_at m at (Frame f))
share_entry m at None = fill_entry m at

-- a touch uses an entry that names a frame; the page of zeros serves reads of private pages
abbrev pub touch_entry : RunMachine → AccessSite → Bool → Option Entry → Result RunMachine Errno
touch_entry m at writes (Some (Frame f)) = Ok m
touch_entry m at writes (Some (OnItsWay f)) = Ok m
touch_entry m at writes (Some Zero) = if writes then fill_entry m at else Ok m
touch_entry m at writes None =
    if is_shared m.segments (shown_at at).segment then share_entry m at (get page_cmp m.place (shown_at at))
    else (if writes then fill_entry m at else Ok (with_entry_at m at Zero))

-- the touch of an entry, unless the access is refused
abbrev pub touch_entry_at : RunMachine → Bool → Result AccessSite Errno → Result RunMachine Errno
touch_entry_at m writes (Err e) = Err e
touch_entry_at m writes (Ok at) = touch_entry m at writes (entry_at m.tasks at.pid at.vpn)

-- the bytes in the buffer of an entry's frame; zeros if the entry names no frame
abbrev pub bytes_at : Store → Option Entry → ℕ → ℕ → List ℕ
bytes_at buf None i len = replicate len 0
bytes_at buf (Some Zero) i len = replicate len 0
bytes_at buf (Some (Frame f)) i len = stretch_of (bytes_of buf f) i len
bytes_at buf (Some (OnItsWay f)) i len = stretch_of (bytes_of buf f) i len

-- the buffers with these bytes written from an index on in that of an entry's frame
abbrev pub written_at : Store → Option Entry → ℕ → List ℕ → Store
written_at buf None i new = buf
written_at buf (Some Zero) i new = buf
written_at buf (Some (Frame f)) i new = slice_set buf f (Some (overwrite (bytes_of buf f) i new))
written_at buf (Some (OnItsWay f)) i new = slice_set buf f (Some (overwrite (bytes_of buf f) i new))

-- the answer is added to those before it
abbrev pub with_answer : RunMachine → AccessAnswer → RunMachine
with_answer m answer = record m { answers = m.answers ++ answer ∷ [] }

-- the read after its touch, or its refusal
abbrev pub read_entry : RunMachine → ℕ → ℕ → ℕ → Result RunMachine Errno → RunMachine
read_entry m pid address len (Err e) = with_answer m (Refused e)
read_entry m pid address len (Ok t) =
    with_answer t (Bytes (bytes_at t.buf (entry_at t.tasks pid (address / 4096)) (address % 4096) len))

-- the write after its touch, or its refusal
abbrev pub write_entry : RunMachine → ℕ → ℕ → List ℕ → Result RunMachine Errno → RunMachine
write_entry m pid address new (Err e) = with_answer m (Refused e)
write_entry m pid address new (Ok t) =
    with_answer (record t { buf = written_at t.buf (entry_at t.tasks pid (address / 4096)) (address % 4096) new }) Done

-- a read or a write that is not held
abbrev pub after_unheld_access : RunMachine → Access → RunMachine
after_unheld_access m (Read pid address len) =
    read_entry m pid address len (touch_entry_at m false (site (state_of m) pid address len))
after_unheld_access m (Write pid address new) =
    write_entry m pid address new (touch_entry_at m true (site (state_of m) pid address (length new)))

-- a read or a write. Where it goes and whether that is refused depends on no entry and no buffer
abbrev pub after_access : RunMachine → Access → RunMachine
after_access m a = if is_held_at m (site_of_access (state_of m) a) then with_answer m Held else after_unheld_access m a
