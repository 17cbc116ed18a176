-- Calls that change processes, areas, policies and pins: how they are refused, and the state after them otherwise.
use Rattle.std.specs.Prelude.{ℕ, Bool, true, false, nat_lt, nat_le, ◌||◌, []}
use Rattle.std.specs.List.{filter, fold, list_any}
use Rattle.std.specs.Ordering.{nat_cmp}
use Rattle.nm_types.specs.Map.{set, without, get, replace, with_values, page_cmp, Map}
use Rattle.nm_types.specs.declared.sight.Sight.{Sight}
use Rattle.nm_types.specs.declared.sight.Sight.TheVariants.{ZeroPage, Sees}
use Rattle.nm_types.specs.State.{Process, State, PlacedArea}
use Rattle.nm_types.specs.declared.process.ProcessInfo.{ProcessInfo}
use Rattle.std.specs.Prelude.{◌+◌, ◌-◌, ◌/◌, ◌^◌, ◌==◌, List, Option, Some, None, Result, Ok, Err, if◌then◌else◌, not, ◌&&◌, ◌∷◌, length}
use Rattle.std.specs.BTreeSet.{insert_key}
use Rattle.nm_types.specs.declared.page.Page.{Page}
use Rattle.nm_types.specs.Nodes.{up_from, without_node}
use Rattle.nm_types.specs.Layout.{Layout, node_count}
use Rattle.nm_model.specs.definitions.Seen.{sight_at, pins_of, page_seen}
-- re-exported: the pages that areas show, and parts of areas
pub use Rattle.nm_model.specs.definitions.Areas.{pages_from, pages_between, before, behind, parts_outside, covers_page, is_covered}
use Rattle.nm_model.specs.definitions.Areas.{Mapping, with_area, with_segment, areas_left, segments_left, pages_gone, with_policy}
use Rattle.nm_model.specs.definitions.Frames.{all_frames}
use Rattle.nm_model.specs.definitions.Run.{with_free}
use Rattle.std.specs.Option.{is_some, unwrap_or}
use Rattle.nm_types.specs.declared.errno.Errno.{Errno}
use Rattle.nm_types.specs.declared.errno.Errno.TheVariants.{Esrch, Enomem, Ebusy, Einval}
use Rattle.nm_types.specs.declared.area.Area.{Area}
-- re-exported: how the first error is found, and what ranges are
pub use Rattle.nm_model.specs.definitions.AreaRefusal.{first_error, is_range, overlaps, is_stretch}
use Rattle.nm_model.specs.definitions.AreaRefusal as areas
use Rattle.nm_types.specs.declared.area.Policy.{Policy}
-- re-exported: the policy of a range of areas
pub use Rattle.nm_model.specs.definitions.Areas.{page_count, inside, parts_with_policy, is_well_formed}

-- what `spawn` fixes of a process
abbrev pub info_of : Process → ProcessInfo
info_of p = record { uid = p.uid; privileged = p.privileged; home = p.home; allowed = p.allowed }

-- a process that has touched nothing
abbrev pub new_process : ProcessInfo → Process
new_process info = record { uid = info.uid; privileged = info.privileged; home = info.home; allowed = info.allowed; sees = [] }

-- a process that sees this at a page number
abbrev pub seeing : Process → ℕ → Sight → Process
seeing p v sight = record p { sees = set nat_cmp p.sees v sight }

-- a process that sees nothing at a page number
abbrev pub blind_at : Process → ℕ → Process
blind_at p v = record p { sees = without nat_cmp p.sees v }

-- a process that sees the page of zeros at a page number, or nothing
abbrev pub seeing_before : Process → ℕ → Bool → Process
seeing_before p v true = seeing p v ZeroPage
seeing_before p v false = blind_at p v

-- a process that sees nothing from one page number up to another
abbrev pub blind_between : ℕ → ℕ → Process → Process
blind_between first end process =
    record process { sees = filter (λ e. nat_lt e.0 first || nat_le end e.0) process.sees }

-- a machine without processes: every node is online, and every frame is free
abbrev pub new_machine : Layout → State
new_machine g =
    record {
      layout = g;
      processes = [];
      areas = [];
      segments = [];
      next_segment = 0;
      place = [];
      bytes = [];
      pins = [];
      free = all_frames 0 g.sizes;
      online = up_from 0 (node_count g);
      moved = 0;
      failed = 0;
    }

-- a node is put online or taken offline
abbrev pub set_online : State → ℕ → Bool → State
set_online s node online =
    record s { online = if online then insert_key nat_cmp s.online node else without_node s.online node }

-- a new process, which has touched nothing
abbrev pub spawn : State → ℕ → ℕ → ℕ → List ℕ → Bool → State
spawn s pid uid home allowed privileged =
    let process : Process = record { uid = uid; privileged = privileged; home = home; allowed = allowed; sees = [] } in
    record s { processes = set nat_cmp s.processes pid process }

-- a state's areas, segments and frames of pages
abbrev pub areas_of : State → Mapping
areas_of s = record { areas = s.areas; segments = s.segments; next = s.next_segment; place = s.place }

-- the state with other areas and segments
abbrev pub with_areas_of : State → Mapping → State
with_areas_of s m = record s { areas = m.areas; segments = m.segments; next_segment = m.next }

-- an area over a range of a segment is added
abbrev pub attach : State → ℕ → ℕ → ℕ → ℕ → ℕ → State
attach s pid address segment offset pages =
    with_areas_of s (with_area (areas_of s) pid address segment offset pages)

-- a new segment, and an area over all of it, are added
abbrev pub map_new : State → ℕ → ℕ → ℕ → Bool → State
map_new s pid address pages shared = with_areas_of s (with_segment (areas_of s) pid address pages shared)

-- the number of pins of what is seen is changed, if that is a page
abbrev pub with_pins : State → Option Sight → (ℕ → ℕ) → State
with_pins s (Some (Sees p)) change = record s { pins = replace page_cmp s.pins p (change (pins_of s p)) }
with_pins s sight change = s

-- the page that is seen gets another pin
abbrev pub pin : State → ℕ → ℕ → State
pin s pid address = with_pins s (sight_at s pid (address / 4096)) (λ n. n + 1)

-- the page that is seen loses a pin
abbrev pub unpin : State → ℕ → ℕ → State
unpin s pid address = with_pins s (sight_at s pid (address / 4096)) (λ n. n - 1)

-- a page loses its frame, its bytes and its pins
abbrev pub released_from : State → Page → Option ℕ → State
released_from s p None = s
released_from s p (Some frame) =
    let bytes = without page_cmp s.bytes p in
    with_free (record s { place = without page_cmp s.place p; bytes = bytes; pins = without page_cmp s.pins p }) frame

-- a page that no area covers loses its frame, which becomes free
abbrev pub release_page : State → Page → State
release_page s p = if is_covered s.areas p then s else released_from s p (get page_cmp s.place p)

-- a process unmaps a range: it loses what it sees there and the parts of its areas there; then, page by page in address
-- order, pages that no area covers lose their frames
abbrev pub drop_range : State → ℕ → ℕ → ℕ → State
drop_range s pid first end =
    let areas = areas_left s.areas pid first end in
    let blind = with_values (λ q process. if q == pid then blind_between first end process else process) s.processes in
    let left = record s { processes = blind; areas = areas; segments = segments_left s.segments areas } in
    fold release_page left (pages_gone s.areas pid first end)

-- `pages` pages from an address on are unmapped
abbrev pub unmap : State → ℕ → ℕ → ℕ → State
unmap s pid address pages = drop_range s pid (address / 4096) (address / 4096 + pages)

-- a process unmaps all that it has, and is removed
abbrev pub exit : State → ℕ → State
exit s pid = let t = drop_range s pid 0 (2 ^ 35) in record t { processes = without nat_cmp t.processes pid }

-- whether no process has this pid
abbrev pub is_unknown : State → ℕ → Bool
is_unknown s pid = not (is_some (get nat_cmp s.processes pid))

-- EINVAL: pid 0 or one that is alive, a home that is no node, or an allowed set that is empty or not all of the
-- machine; ENOMEM: 1,024 processes are alive
abbrev pub spawn_refusal : State → ℕ → ℕ → List ℕ → Option Errno
spawn_refusal s pid home allowed =
    let nodes = node_count s.layout in
    let bad_nodes = nat_le nodes home || (length allowed == 0) || list_any (nat_le nodes) allowed in
    let full = nat_le 1024 (length s.processes) in
    first_error (((pid == 0) || not (is_unknown s pid) || bad_nodes, Einval) ∷ (full, Enomem) ∷ [])

-- ESRCH: no such process; EINVAL: no room for the area; ENOMEM: no segment number is left
abbrev pub map_refusal : State → ℕ → ℕ → ℕ → Option Errno
map_refusal s pid address pages =
    if is_unknown s pid then Some Esrch else areas.insert_refusal (areas_of s) pid address pages

-- ESRCH: no such process; EINVAL: no room for the area, or no such range of a shared segment
abbrev pub attach_refusal : State → ℕ → ℕ → ℕ → ℕ → ℕ → Option Errno
attach_refusal s pid address segment offset pages =
    if is_unknown s pid then Some Esrch else areas.stretch_refusal (areas_of s) pid address segment offset pages

-- whether an area of the process shows a page with a pin at one of these page numbers
abbrev pub shows_pinned : Map (ℕ × ℕ) Area → Map Page ℕ → ℕ → ℕ → ℕ → Bool
shows_pinned areas pins pid first end =
    let is_pinned = λ (p : Page). nat_lt 0 (unwrap_or (get page_cmp pins p) 0) in
    let shown = λ (a : PlacedArea). (a.0.0 == pid) && list_any is_pinned (pages_between first end a) in
    list_any shown areas

-- ESRCH: no such process; EINVAL: no range of whole pages; EBUSY: a page in the range has a pin
abbrev pub unmap_refusal : State → ℕ → ℕ → ℕ → Option Errno
unmap_refusal s pid address pages =
    let busy = shows_pinned s.areas s.pins pid (address / 4096) (address / 4096 + pages) in
    first_error ((is_unknown s pid, Esrch) ∷ (not (is_range address pages), Einval) ∷ (busy, Ebusy) ∷ [])

-- ESRCH: no such process; EBUSY: a page in one of its areas has a pin
abbrev pub exit_refusal : State → ℕ → Option Errno
exit_refusal s pid = first_error ((is_unknown s pid, Esrch) ∷ (shows_pinned s.areas s.pins pid 0 (2 ^ 35), Ebusy) ∷ [])

-- the error if no page is seen; otherwise this error if the page's number of pins is bad
abbrev pub pins_refusal : State → (ℕ → Bool) → Errno → Result Page Errno → Option Errno
pins_refusal s is_bad e (Err none) = Some none
pins_refusal s is_bad e (Ok p) = if is_bad (pins_of s p) then Some e else None

-- ESRCH: no such process; EFAULT: no area, or the page of zeros; ENOENT: nothing touched there; EBUSY: the page has
-- 65,535 pins
abbrev pub pin_refusal : State → ℕ → ℕ → Option Errno
pin_refusal s pid address =
    if is_unknown s pid then Some Esrch
    else pins_refusal s (nat_le 65535) Ebusy (page_seen s pid (address / 4096))

-- ESRCH: no such process; EFAULT: no area, or the page of zeros; ENOENT: nothing touched there; EINVAL: the page has no
-- pin
abbrev pub unpin_refusal : State → ℕ → ℕ → Option Errno
unpin_refusal s pid address =
    if is_unknown s pid then Some Esrch
    else pins_refusal s (λ n. n == 0) Einval (page_seen s pid (address / 4096))

-- EINVAL: no such node
abbrev pub list_refusal : State → ℕ → Option Errno
list_refusal s node = first_error ((nat_le (node_count s.layout) node, Einval) ∷ [])

-- ESRCH: no such process
abbrev pub entries_refusal : State → ℕ → Option Errno
entries_refusal s pid = first_error ((is_unknown s pid, Esrch) ∷ [])

-- ESRCH: no such process; EINVAL: an address inside a page, or an end past 2^64 - 1; EFAULT: a page without an area
abbrev pub policy_refusal : State → ℕ → ℕ → ℕ → Option Errno
policy_refusal s pid address len =
    if is_unknown s pid then Some Esrch else areas.range_refusal (areas_of s) pid address len

-- the areas of a process are split at both ends of a range of page numbers, and those inside get this policy
abbrev pub set_range_policy : State → ℕ → ℕ → ℕ → Policy → State
set_range_policy s pid first end policy = with_areas_of s (with_policy (areas_of s) pid first end policy)

-- the same for the pages of `len` bytes, rounded up
abbrev pub set_policy : State → ℕ → ℕ → ℕ → Policy → State
set_policy s pid address len policy =
    set_range_policy s pid (address / 4096) (address / 4096 + page_count len) policy
