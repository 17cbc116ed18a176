-- What holds of every state between two calls, and how an audit checks frames.
use Rattle.std.specs.Prelude.{◌≡◌, ℕ, ◌+◌, ◌^◌, ◌≤◌, ◌<◌, nat_lt, ◌==◌, cond, false, List, [], length, count_by}
use Rattle.std.specs.Prelude.{slice_index_or, Option, Some, None, IsSome, IsTrue, Bool, ◌&&◌, ◌∷◌, ◌++◌, map}
use Rattle.std.specs.List.{sum_by, AllByRecursion, list_all}
use Rattle.std.specs.List.Sorted.{IsStrictlySortedBy}
use Rattle.std.specs.Map.{keys_of, values_of}
use Rattle.std.specs.Ordering.{nat_cmp}
use Rattle.nm_types.specs.declared.page.Page.{Page}
use Rattle.nm_types.specs.declared.area.Segment.{Segment}
use Rattle.nm_types.specs.Map.{Map, get, page_cmp, spot_cmp}
use Rattle.nm_types.specs.Layout.{Layout, node_count, frame_count, node_of}
use Rattle.nm_types.specs.declared.sight.Sight.TheVariants.{ZeroPage, Sees}
use Rattle.nm_types.specs.State.{Process, State, PlacedArea, page_at}
use Rattle.nm_model.specs.definitions.Seen.{sight_at}
-- re-exported: the areas of a process do not overlap, and a private page is shown at one page number only
pub use Rattle.nm_model.specs.definitions.Areas.{AreasAreApart, PrivateIsOnce}
use Rattle.nm_model.specs.definitions.Areas.{is_shared}
use Rattle.nm_model.specs.definitions.Effect.{is_covered}
use Rattle.nm_types.specs.Nodes.{up_from}

-- the maps have their keys in order
pub record IsInOrder (s : State) : Type 0 where
  pub processes : IsStrictlySortedBy nat_cmp (keys_of s.processes)
  pub sees : AllByRecursion (λ e. IsStrictlySortedBy nat_cmp (keys_of e.1.sees)) s.processes
  pub areas : IsStrictlySortedBy spot_cmp (keys_of s.areas)
  pub segments : IsStrictlySortedBy nat_cmp (keys_of s.segments)
  pub place : IsStrictlySortedBy page_cmp (keys_of s.place)

-- no frame is the place of two pages
abbrev pub PlacesAreApart : Map Page ℕ → Type 0
PlacesAreApart place =
    (p q : Page) (frame : ℕ) → get page_cmp place p ≡ Some frame → get page_cmp place q ≡ Some frame → p ≡ q

-- how often a frame is in a list
abbrev pub times : ℕ → List ℕ → ℕ
times frame frames = count_by (λ f. f == frame) frames

-- how many times a frame is the place of a page, is free, or was left by a run that has not ended
abbrev pub holders : Map Page ℕ → List (List ℕ) → List ℕ → ℕ → ℕ
holders place free left frame = times frame (values_of place) + sum_by (times frame) free + times frame left

-- a node's free list has frames of that node only
abbrev pub OwnsItsFree : Layout → List (List ℕ) → ℕ → Type 0
OwnsItsFree g free node = AllByRecursion (λ frame. node_of g frame ≡ node) (slice_index_or free node [])

-- each frame of the machine is in exactly one of these places, once, and a free frame is in its own node's list
pub record FramesAreOnce (g : Layout) (place : Map Page ℕ) (free : List (List ℕ)) (left : List ℕ) : Type 0 where
  pub lists : length free ≡ node_count g
  pub once : (frame : ℕ) → holders place free left frame ≡ cond (nat_lt frame (frame_count g)) 1 0
  pub own : (node : ℕ) → OwnsItsFree g free node

-- a page that a process sees is shown to it there, and has a frame
abbrev pub SeesWhatIsShown : State → Type 0
SeesWhatIsShown s =
    (pid v : ℕ) (p : Page) →
    sight_at s pid v ≡ Some (Sees p) → (page_at s.areas pid v ≡ Some p) × IsSome (get page_cmp s.place p)

-- the page of zeros is seen only where a private page is shown
abbrev pub ZeroIsPrivate : State → Type 0
ZeroIsPrivate s =
    (pid v : ℕ) →
    sight_at s pid v ≡ Some ZeroPage → (p : Page) × (page_at s.areas pid v ≡ Some p) × (is_shared s.segments p.segment ≡ false)

-- a page with a frame is covered by an area
abbrev pub PlacedIsCovered : State → Type 0
PlacedIsCovered s = (p : Page) → IsSome (get page_cmp s.place p) → IsTrue (is_covered s.areas p)

-- exactly the pages with a frame have bytes, 4,096 each ...
pub record PlacedHasBytes (place : Map Page ℕ) (bytes : Map Page (List ℕ)) : Type 0 where
  pub same_pages : keys_of bytes ≡ keys_of place
  pub whole : AllByRecursion (λ e. length e.1 ≡ 4096) bytes

-- ... and a number of pins, from 0 to 65,535
pub record PlacedHasPins (place pins : Map Page ℕ) : Type 0 where
  pub same_pages : keys_of pins ≡ keys_of place
  pub few : AllByRecursion (λ e. e.1 ≤ 65535) pins

-- a private page with a frame is seen by some process
abbrev pub PrivateIsSeen : State → Type 0
PrivateIsSeen s =
    (p : Page) → IsSome (get page_cmp s.place p) → is_shared s.segments p.segment ≡ false →
    (pid : ℕ) × (v : ℕ) × (sight_at s pid v ≡ Some (Sees p))

-- the segment exists, and has at least `pages` pages
abbrev pub HasPages : Option Segment → ℕ → Type 0
HasPages None pages = ⊥
HasPages (Some segment) pages = pages ≤ segment.pages

-- an area has a page and ends at 2^47 or before; its process exists, and so does its segment, with all pages that it
-- shows
abbrev pub IsWhole : State → PlacedArea → Type 0
IsWhole s a =
    (0 < a.1.pages) × (a.0.1 + a.1.pages ≤ 2 ^ 35) × IsSome (get nat_cmp s.processes a.0.0)
    × HasPages (get nat_cmp s.segments a.1.page.segment) (a.1.page.index + a.1.pages)

-- the next segment's number is new, and at most 65,536 segments have been made
pub record SegmentsAreNumbered (segments : Map ℕ Segment) (next : ℕ) : Type 0 where
  pub below : (n : ℕ) → IsSome (get nat_cmp segments n) → n < next
  pub few : next ≤ 65536

-- the online nodes are nodes of the machine, in ascending order
pub record AreNodes (g : Layout) (nodes : List ℕ) : Type 0 where
  pub upwards : IsStrictlySortedBy nat_cmp nodes
  pub below : AllByRecursion (λ node. node < node_count g) nodes

-- at most 1,024 processes are alive
abbrev pub ProcessesAreFew : Map ℕ Process → Type 0
ProcessesAreFew processes = length processes ≤ 1024

-- a state is sound during a run that has left these frames
pub record IsSoundInFlight (s : State) (left : List ℕ) : Type 0 where
  pub order : IsInOrder s
  pub apart : PlacesAreApart s.place
  pub frames : FramesAreOnce s.layout s.place s.free left
  pub shown : SeesWhatIsShown s
  pub zeros : ZeroIsPrivate s
  pub covered : PlacedIsCovered s
  pub bytes : PlacedHasBytes s.place s.bytes
  pub pins : PlacedHasPins s.place s.pins
  pub seen : PrivateIsSeen s
  pub once : PrivateIsOnce s.areas s.segments
  pub areas : AllByRecursion (IsWhole s) s.areas
  pub numbers : SegmentsAreNumbered s.segments s.next_segment
  pub disjoint : AreasAreApart s.areas
  pub online : AreNodes s.layout s.online
  pub few : ProcessesAreFew s.processes

-- a state is sound, as all states between two calls are
abbrev pub IsSound : State → Type 0
IsSound s = IsSoundInFlight s []

-- whether a frame is one of the machine's
abbrev pub is_frame : Layout → ℕ → Bool
is_frame g frame = nat_lt frame (frame_count g)

-- whether a frame is one of the machine's, and of the node that it is paired with
abbrev pub is_on_its_node : Layout → ℕ × ℕ → Bool
is_on_its_node g f = is_frame g f.1 && (node_of g f.1 == f.0)

-- the free frames, paired with their nodes, and the frames of pages: each is the machine's, each free frame is its
-- node's, and each frame of the machine is in both lists together exactly once
abbrev pub is_audited : Layout → List (ℕ × ℕ) → List ℕ → Bool
is_audited g free placed =
    let frames : List ℕ = map (λ (f : ℕ × ℕ). f.1) free ++ placed in
    list_all (is_on_its_node g) free && list_all (is_frame g) placed
    && list_all (λ frame. times frame frames == 1) (up_from 0 (frame_count g))

-- the frames of each list, paired with the list's number, counted from this one
abbrev pub with_numbers : ℕ → List (List ℕ) → List (ℕ × ℕ)
with_numbers node [] = []
with_numbers node (frames ∷ lists) = map {B = ℕ × ℕ} (λ (frame : ℕ). (node, frame)) frames ++ with_numbers (node + 1) lists

-- whether each frame is in exactly one place: its own node's free list, or a page's
abbrev pub each_frame_is_once : State → Bool
each_frame_is_once s = is_audited s.layout (with_numbers 0 s.free) (values_of s.place)
