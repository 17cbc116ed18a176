-- What processes see, and where these pages are.
use Rattle.std.specs.Prelude.{ℕ, nat_lt, Bool, false, List, length, Option, Some, None, Result, Ok, Err, nat_le, ◌&&◌, []}
use Rattle.std.specs.Option.{unwrap_or, option_map}
use Rattle.std.specs.List.{list_any, filter, flat_map}
use Rattle.std.specs.Map.{keys_of}
use Rattle.std.specs.Ordering.{nat_cmp}
use Rattle.nm_types.specs.declared.page.Page.{Page}
use Rattle.nm_types.specs.declared.seen.Seen.{Seen}
use Rattle.nm_types.specs.declared.seen.Seen.TheVariants.{NoArea, Absent, Zero, At}
use Rattle.nm_types.specs.declared.area.Area.{Area}
use Rattle.nm_types.specs.declared.errno.Errno.{Errno}
use Rattle.nm_types.specs.declared.errno.Errno.TheVariants.{Enoent, Efault}
use Rattle.nm_types.specs.Map.{Map, page_cmp, same_page, get}
use Rattle.nm_types.specs.declared.sight.Sight.{Sight}
use Rattle.nm_types.specs.declared.sight.Sight.TheVariants.{ZeroPage, Sees}
use Rattle.nm_types.specs.State.{Process, State, page_at, area_over}
use Rattle.std.specs.Prelude.{◌≡◌, ◌+◌, ◌^◌, ◌≤◌, ◌<◌, ◌==◌, ◌∷◌}
use Rattle.nm_types.specs.Layout.{Layout, node_of}
use Rattle.nm_types.specs.declared.located_page.LocatedPage.{LocatedPage}

-- what a process sees at a page number, if there is such a process
abbrev pub sight_in : Option Process → ℕ → Option Sight
sight_in None v = None
sight_in (Some process) v = get nat_cmp process.sees v

-- what a process sees at a page number, if it has touched it
abbrev pub sight_at : State → ℕ → ℕ → Option Sight
sight_at s pid v = sight_in (get nat_cmp s.processes pid) v

-- whether this page is what is seen
abbrev pub is_sight_of : Page → Sight → Bool
is_sight_of p ZeroPage = false
is_sight_of p (Sees q) = same_page p q

-- whether a process sees a page, at any address
abbrev pub sees_page : Page → Process → Bool
sees_page p process = list_any (λ e. is_sight_of p e.1) process.sees

-- those of these processes that see a page, each once
abbrev pub users : Map ℕ Process → Page → List ℕ
users processes p = keys_of (filter (λ e. sees_page p e.1) processes)

-- the number of pins of a page
abbrev pub pins_of : State → Page → ℕ
pins_of s p = unwrap_or (get page_cmp s.pins p) 0

-- whether a page has a pin
abbrev pub is_pinned : State → Page → Bool
is_pinned s p = nat_lt 0 (pins_of s p)

-- the page that is seen where this page is shown; EFAULT: no area, or the page of zeros; ENOENT: nothing touched there
abbrev pub page_or_error : Option Page → Option Sight → Result Page Errno
page_or_error (Some shown) (Some (Sees p)) = Ok p
page_or_error (Some shown) None = Err Enoent
page_or_error shown sight = Err Efault

-- the page that a process sees at a page number, or the error
abbrev pub page_seen : State → ℕ → ℕ → Result Page Errno
page_seen s pid v = page_or_error (page_at s.areas pid v) (sight_at s pid v)

-- a look at a page with this frame, if any
abbrev pub look_at_place : Map ℕ Process → Map Page ℕ → Page → Option ℕ → Seen
look_at_place processes pins p None = Absent
look_at_place processes pins p (Some frame) =
    At p frame (length (users processes p)) (nat_lt 0 (unwrap_or (get page_cmp pins p) 0))

-- the frame of a page and whether the page has a pin, if it has a frame
abbrev pub frame_and_pin : Map Page ℕ → Map Page ℕ → Page → Option (ℕ × Bool)
frame_and_pin place pins p =
    option_map (λ frame. (frame, nat_lt 0 (unwrap_or (get page_cmp pins p) 0))) (get page_cmp place p)

-- the same in a state
abbrev pub look_at_page : State → Page → Option ℕ → Seen
look_at_page s p place = look_at_place s.processes s.pins p place

-- a look at what is seen, given the frames and pins of pages
abbrev pub look_by_sight : Map ℕ Process → Map Page ℕ → Map Page ℕ → Option Sight → Seen
look_by_sight processes place pins None = Absent
look_by_sight processes place pins (Some ZeroPage) = Zero
look_by_sight processes place pins (Some (Sees p)) = look_at_place processes pins p (get page_cmp place p)

-- a look at what is seen
abbrev pub look_at_sight : State → Option Sight → Seen
look_at_sight s sight = look_by_sight s.processes s.place s.pins sight

-- a look at what is seen where this page, if any, is shown
abbrev pub look_behind : Map ℕ Process → Map Page ℕ → Map Page ℕ → Option Page → Option Sight → Seen
look_behind processes place pins None sight = NoArea
look_behind processes place pins (Some shown) sight = look_by_sight processes place pins sight

-- the same in a state
abbrev pub look_under : State → Option Page → Option Sight → Seen
look_under s shown sight = look_behind s.processes s.place s.pins shown sight

-- a look at a page number of a process, given the processes, the areas, and the frames and pins of pages
abbrev pub look_in : Map ℕ Process → Map (ℕ × ℕ) Area → Map Page ℕ → Map Page ℕ → ℕ → ℕ → Seen
look_in processes areas place pins pid v = look_behind processes place pins (page_at areas pid v) (sight_in (get nat_cmp processes pid) v)

-- a look at a page number of a process
abbrev pub look : State → ℕ → ℕ → Seen
look s pid v = look_in s.processes s.areas s.place s.pins pid v

-- the frame of what is seen, if it has one
abbrev pub frame_of : Map Page ℕ → Option Sight → Option ℕ
frame_of place None = None
frame_of place (Some ZeroPage) = None
frame_of place (Some (Sees p)) = get page_cmp place p

-- the frame of what a process sees at a page number, if it has one
abbrev pub frame_seen : State → ℕ → ℕ → Option ℕ
frame_seen s pid v = frame_of s.place (sight_at s pid v)

-- the entries of a map from one number up to another
abbrev pub between : {V : Type 0} → ℕ → ℕ → Map ℕ V → Map ℕ V
between first end m = filter (λ e. nat_le first e.0 && nat_lt e.0 end) m

-- what a process sees, by page number, if there is such a process
abbrev pub sights : Map ℕ Process → ℕ → Map ℕ Sight
sights processes pid = unwrap_or (option_map (λ (p : Process). p.sees) (get nat_cmp processes pid)) []

-- a page seen at a page number, if it has a frame
abbrev pub in_frame : Layout → ℕ → Page → Option ℕ → List LocatedPage
in_frame g v p None = []
in_frame g v p (Some frame) = record { vpn = v; page = p; frame = frame; node = node_of g frame } ∷ []

-- what is seen at a page number, if it is a page with a frame
abbrev pub locate : Layout → Map Page ℕ → ℕ → Sight → List LocatedPage
locate g place v ZeroPage = []
locate g place v (Sees p) = in_frame g v p (get page_cmp place p)

-- the pages with a frame among what is seen, with their frames and nodes
abbrev pub located_in : Layout → Map Page ℕ → Map ℕ Sight → List LocatedPage
located_in g place sees = flat_map (λ e. locate g place e.0 e.1) sees

-- the pages that a process sees from one page number up to another, by page number, with their frames and nodes
abbrev pub located_between : State → ℕ → ℕ → ℕ → List LocatedPage
located_between s pid first end = located_in s.layout s.place (between first end (sights s.processes pid))

-- the pages on a node, by segment and index
abbrev pub placed_on : State → ℕ → List Page
placed_on s node = keys_of (filter (λ e. node_of s.layout e.1 == node) s.place)

-- an area of a process, given with its first page number, covers each of its page numbers, and its pages have indices
-- below 2^64
abbrev pub IsOver : Map (ℕ × ℕ) Area → ℕ → ℕ × Area → Type 0
IsOver areas pid a =
    ((v : ℕ) → a.0 ≤ v → v < a.0 + a.1.pages → area_over areas pid v ≡ Some ((pid, a.0), a.1)) × (a.1.page.index + a.1.pages < 2 ^ 64)
