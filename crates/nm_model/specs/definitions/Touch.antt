-- Reads and writes, also while pages move.
use Rattle.std.specs.Prelude.{ℕ, ◌+◌, ◌/◌, ◌%◌, ◌==◌, nat_lt, ◌||◌, Bool, true, false, List, [], ◌∷◌, length, drop}
use Rattle.std.specs.Prelude.{replicate, slice_index, slice_index_or, slice_set, Option, Some, None, Result, Ok, Err}
use Rattle.std.specs.Prelude.{if◌then◌else◌, not}
use Rattle.std.specs.Option.{unwrap_or}
use Rattle.std.specs.Result.{result_err}
use Rattle.std.specs.Ordering.{nat_cmp}
use Rattle.nm_types.specs.declared.page.Page.{Page}
use Rattle.nm_types.specs.declared.errno.Errno.{Errno}
use Rattle.nm_types.specs.declared.errno.Errno.TheVariants.{Esrch, Einval, Efault, Enomem}
use Rattle.nm_types.specs.Map.{page_cmp, get, set, replace, same_page}
use Rattle.nm_types.specs.declared.sight.Sight.{Sight}
use Rattle.nm_types.specs.declared.sight.Sight.TheVariants.{ZeroPage, Sees}
use Rattle.nm_types.specs.State.{Process, State, PlacedArea, area_over, page_of, free_list}
use Rattle.nm_model.specs.definitions.Order.{first_touch_order}
use Rattle.nm_model.specs.definitions.Seen.{sight_at}
use Rattle.nm_model.specs.definitions.Areas.{is_shared}
use Rattle.nm_model.specs.definitions.Frames.{overwrite}
use Rattle.nm_model.specs.definitions.Memory.{mem_range}
use Rattle.std.specs.List.{list_any}

-- a process, a page number, and its area over that
pub record AccessSite : Type 0 where
  pub pid : ℕ
  pub process : Process
  pub area : PlacedArea
  pub vpn : ℕ

-- the page that the area shows at the page number
abbrev pub shown_at : AccessSite → Page
shown_at at = page_of at.area at.vpn

-- the site with this area, or EFAULT: no area covers the page number
abbrev pub site_over : ℕ → Process → ℕ → Option PlacedArea → Result AccessSite Errno
site_over pid process v None = Err Efault
site_over pid process v (Some area) = Ok (record { pid = pid; process = process; area = area; vpn = v })

-- this site, or the first refusal (ESRCH: no such process; EINVAL: no byte, or past the page's end; EFAULT: no area)
abbrev pub site_of : State → Option Process → ℕ → ℕ → ℕ → Result AccessSite Errno
site_of s None pid address len = Err Esrch
site_of s (Some process) pid address len =
    if (len == 0) || nat_lt 4096 (address % 4096 + len) then Err Einval
    else site_over pid process (address / 4096) (area_over s.areas pid (address / 4096))

-- where `len` bytes of a process from an address on are, or the first refusal
abbrev pub site : State → ℕ → ℕ → ℕ → Result AccessSite Errno
site s pid address len = site_of s (get nat_cmp s.processes pid) pid address len

-- the refusals of a read or a write of `len` bytes before it looks for a frame: all except ENOMEM
abbrev pub site_refusal : State → ℕ → ℕ → ℕ → Option Errno
site_refusal s pid address len = result_err (site s pid address len)

-- what the process sees at this page number is set
abbrev pub with_sight : State → AccessSite → Sight → State
with_sight s at sight =
    let process : Process = record (at.process) { sees = set nat_cmp at.process.sees at.vpn sight } in
    record s { processes = replace nat_cmp s.processes at.pid process }

-- a page gets this frame, with zeros in it
abbrev pub with_page : State → Page → ℕ → State
with_page s page frame =
    let zeros = set page_cmp s.bytes page (replicate 4096 0) in
    record s { place = set page_cmp s.place page frame; bytes = zeros; pins = set page_cmp s.pins page 0 }

-- a node's front frame is taken
abbrev pub without_front_frame : State → ℕ → State
without_front_frame s node = record s { free = slice_set s.free node (drop 1 (free_list s node)) }

-- whether a node has a free frame
abbrev pub has_free : List (List ℕ) → ℕ → Bool
has_free free node = not (length (slice_index_or free node []) == 0)

-- the first of these nodes that has a free frame
abbrev pub first_free : List (List ℕ) → List ℕ → Option ℕ
first_free free [] = None
first_free free (node ∷ nodes) = if length (slice_index_or free node []) == 0 then first_free free nodes else Some node

-- the page takes the front frame of the node, and the process sees it; ENOMEM if there is no node
abbrev pub allocate_page : State → AccessSite → Option ℕ → Result State Errno
allocate_page s at None = Err Enomem
allocate_page s at (Some node) =
    let placed = with_page (without_front_frame s node) (shown_at at) (slice_index (free_list s node) 0) in
    Ok (with_sight placed at (Sees (shown_at at)))

-- the page gets the front frame of the first node in order that has one
abbrev pub fill_page : State → AccessSite → Result State Errno
fill_page s at =
    let process = at.process in
    let order = first_touch_order s.layout s.online process.home process.allowed at.area.1.policy (shown_at at).index in
    allocate_page s at (first_free s.free order)

-- a page of a shared segment keeps its frame, or gets one if it has none, and the process sees it
abbrev pub share_page : State → AccessSite → Option ℕ → Result State Errno
share_page s at (Some frame) = Ok (with_sight s at (Sees (shown_at at)))
share_page s at None = fill_page s at

-- a touch changes nothing where a page is seen already, and gives a read of a private page the page of zeros
abbrev pub touch_sight : State → AccessSite → Bool → Option Sight → Result State Errno
touch_sight s at writes (Some (Sees page)) = Ok s
touch_sight s at writes (Some ZeroPage) = if writes then fill_page s at else Ok s
touch_sight s at writes None =
    if is_shared s.segments (shown_at at).segment then share_page s at (get page_cmp s.place (shown_at at))
    else (if writes then fill_page s at else Ok (with_sight s at ZeroPage))

-- the touch of an entry, unless the access is refused
abbrev pub touch_site : State → Bool → Result AccessSite Errno → Result State Errno
touch_site s writes (Err e) = Err e
touch_site s writes (Ok at) = touch_sight s at writes (get nat_cmp at.process.sees at.vpn)

-- what a read or a write of `len` bytes does before it reaches the bytes, or the first refusal
abbrev pub touch : State → ℕ → ℕ → ℕ → Bool → Result State Errno
touch s pid address len writes = touch_site s writes (site s pid address len)

-- a read or a write
pub data Access : Type 0 where
  Read : (pid address len : ℕ) → Access
  Write : (pid address : ℕ) (bytes : List ℕ) → Access

-- the answer to an access
pub data AccessAnswer : Type 0 where
  Bytes : (bytes : List ℕ) → AccessAnswer
  Done : AccessAnswer
  Held : AccessAnswer
  Refused : (errno : Errno) → AccessAnswer

-- the state after an access, and its answer
pub record AccessResult : Type 0 where
  pub state : State
  pub answer : AccessAnswer

-- the read after its touch, or its refusal
abbrev pub read_after : State → ℕ → ℕ → ℕ → Result State Errno → AccessResult
read_after s pid address len (Err e) = record { state = s; answer = Refused e }
read_after s pid address len (Ok t) = record { state = t; answer = Bytes (mem_range t pid address len) }

-- a read: its touch, then the bytes there
abbrev pub read : State → ℕ → ℕ → ℕ → AccessResult
read s pid address len = read_after s pid address len (touch s pid address len false)

-- these bytes are written to the page that is seen, from an index on
abbrev pub with_bytes : State → Option Sight → ℕ → List ℕ → State
with_bytes s (Some (Sees page)) i new =
    let old = unwrap_or (get page_cmp s.bytes page) [] in
    record s { bytes = replace page_cmp s.bytes page (overwrite old i new) }
with_bytes s sight i new = s

-- the write after its touch, or its refusal
abbrev pub write_after : State → ℕ → ℕ → List ℕ → Result State Errno → AccessResult
write_after s pid address new (Err e) = record { state = s; answer = Refused e }
write_after s pid address new (Ok t) =
    record { state = with_bytes t (sight_at t pid (address / 4096)) (address % 4096) new; answer = Done }

-- a write: its touch, then these bytes are there
abbrev pub write : State → ℕ → ℕ → List ℕ → AccessResult
write s pid address new = write_after s pid address new (touch s pid address (length new) true)

-- a read or a write is made
abbrev pub access : State → Access → AccessResult
access s (Read pid address len) = read s pid address len
access s (Write pid address new) = write s pid address new

-- where an access finds its page, or its first refusal
abbrev pub site_of_access : State → Access → Result AccessSite Errno
site_of_access s (Read pid address len) = site s pid address len
site_of_access s (Write pid address new) = site s pid address (length new)

-- whether the page there is one of these
abbrev pub is_held : List Page → Result AccessSite Errno → Bool
is_held moved (Err e) = false
is_held moved (Ok at) = list_any (same_page (shown_at at)) moved

-- an access to a page that moves is held and does nothing
abbrev pub access_during : State → List Page → Access → AccessResult
access_during s moved a = if is_held moved (site_of_access s a) then record { state = s; answer = Held } else access s a

-- the state after accesses, and their answers
pub record AccessResults : Type 0 where
  pub state : State
  pub answers : List AccessAnswer

-- one access after another
abbrev pub all_in_flight : State → List Page → List Access → AccessResults
all_in_flight s moved [] = record { state = s; answers = [] }
all_in_flight s moved (a ∷ accesses) =
    let now = access_during s moved a in
    let rest = all_in_flight now.state moved accesses in
    record { state = rest.state; answers = now.answer ∷ rest.answers }
