-- Areas and the segments that they show: their pages, parts and policies, and how calls change them.
use Rattle.std.specs.Prelude.{ℕ, zero, suc, ◌+◌, ◌-◌, min, max, ◌==◌, nat_lt, nat_le, Bool, ◌&&◌, List, [], ◌∷◌, ◌++◌, if◌then◌else◌}
use Rattle.std.specs.List.{list_any, AllByRecursion, list_all, flat_map, filter, fold}
use Rattle.nm_types.specs.declared.page.Page.{Page}
use Rattle.nm_types.specs.declared.area.Area.{Area}
use Rattle.nm_types.specs.Map.{Map, page_cmp, spot_cmp, set, replace, without, get}
use Rattle.nm_types.specs.State.{PlacedArea, covers, page_at, area_over}
use Rattle.std.specs.Prelude.{◌≡◌, ◌^◌, ◌≤◌, ◌<◌, true, false, Some, ◌/◌, Option, not, None}
use Rattle.std.specs.List.Sorted.{IsStrictlySortedBy}
use Rattle.std.specs.Map.{keys_of}
use Rattle.std.specs.Ordering.{nat_cmp}
use Rattle.nm_types.specs.declared.area.Segment.{Segment}
use Rattle.nm_model.specs.views.Table.{Table}
use Rattle.std.specs.Option.{is_some, unwrap_or, option_map}
use Rattle.nm_types.specs.declared.area.Policy.{Policy}
use Rattle.nm_types.specs.Nodes.{up_from}
use Rattle.nm_types.specs.declared.area.Policy.TheVariants.{Default}

-- whether a segment is shared; false if there is no such segment
abbrev pub is_shared : Map ℕ Segment → ℕ → Bool
is_shared segments number = unwrap_or (option_map (λ segment. segment.shared) (get nat_cmp segments number)) false

-- consecutive pages of a segment, from an index on
abbrev pub pages_from : ℕ → ℕ → ℕ → List Page
pages_from segment index zero = []
pages_from segment index (suc n) = record { segment = segment; index = index } ∷ pages_from segment (index + 1) n

-- the pages that an area shows from one page number up to another, in ascending order
abbrev pub pages_between : ℕ → ℕ → PlacedArea → List Page
pages_between first end a =
    let from = max first a.0.1 in
    pages_from a.1.page.segment (a.1.page.index + (from - a.0.1)) (min end (a.0.1 + a.1.pages) - from)

-- the part of an area before a page number ...
abbrev pub before : ℕ → PlacedArea → List PlacedArea
before first a = if nat_lt a.0.1 first then (a.0, record (a.1) { pages = min a.1.pages (first - a.0.1) }) ∷ [] else []

-- ... and the part from a page number on
abbrev pub behind : ℕ → PlacedArea → List PlacedArea
behind end a =
    let from = max end a.0.1 in
    let page : Page = record { segment = a.1.page.segment; index = a.1.page.index + (from - a.0.1) } in
    let rest : Area = record (a.1) { pages = (a.0.1 + a.1.pages) - from; page = page } in
    if nat_lt from (a.0.1 + a.1.pages) then ((a.0.0, from), rest) ∷ [] else []

-- the parts of an area that are left when a process unmaps a range
abbrev pub parts_outside : ℕ → ℕ → ℕ → PlacedArea → List PlacedArea
parts_outside pid first end a = if a.0.0 == pid then before first a ++ behind end a else a ∷ []

-- whether an area shows the page
abbrev pub shows_page : Page → Area → Bool
shows_page p area =
    let first = area.page in
    (first.segment == p.segment) && (nat_le first.index p.index && nat_lt p.index (first.index + area.pages))

-- the same for an area with its pid and first page number
abbrev pub covers_page : Page → PlacedArea → Bool
covers_page p a = shows_page p a.1

-- whether any area shows the page
abbrev pub is_covered : Map (ℕ × ℕ) Area → Page → Bool
is_covered areas p = list_any (covers_page p) areas

pub record Mapping : Type 0 where
  -- by pid and first page number
  pub areas : Map (ℕ × ℕ) Area
  pub segments : Map ℕ Segment
  -- the number of the next segment
  pub next : ℕ
  -- the frame of each page that has one
  pub place : Map Page ℕ

-- areas, segments and the frames of pages in one record
abbrev pub mapping_of : Table → Map Page ℕ → Mapping
mapping_of t place = record { areas = t.areas; segments = t.segments; next = t.next; place = place }

-- an area has at least one page
abbrev pub IsSomePages : PlacedArea → Type 0
IsSomePages a = 0 < a.1.pages

-- an area ends at 2^47 or before
abbrev pub EndsLow : PlacedArea → Type 0
EndsLow a = a.0.1 + a.1.pages ≤ 2 ^ 35

-- the indices of an area's pages are below 2^64
abbrev pub HasIndices : PlacedArea → Type 0
HasIndices a = a.1.page.index + a.1.pages < 2 ^ 64

-- whether an area shows pages of a segment
abbrev pub shows_segment : ℕ → PlacedArea → Bool
shows_segment number a = a.1.page.segment == number

-- each segment is shown by some area
abbrev pub AllShown : Map (ℕ × ℕ) Area → Map ℕ Segment → Type 0
AllShown areas segments = AllByRecursion (λ e. list_any (shows_segment e.0) areas ≡ true) segments

-- the areas of a process do not overlap
abbrev pub AreasAreApart : Map (ℕ × ℕ) Area → Type 0
AreasAreApart [] = Unit {0}
AreasAreApart (a ∷ areas) =
    AllByRecursion (λ b. (pid v : ℕ) → covers a pid v ≡ true → covers b pid v ≡ false) areas × AreasAreApart areas

-- a page of a private segment is shown at one page number only
abbrev pub PrivateIsOnce : Map (ℕ × ℕ) Area → Map ℕ Segment → Type 0
PrivateIsOnce areas segments =
    (pid v q w : ℕ) (p : Page) →
    page_at areas pid v ≡ Some p → page_at areas q w ≡ Some p → is_shared segments p.segment ≡ false → (pid ≡ q) × (v ≡ w)

-- keys are in order; areas of a process do not overlap, each has a page, ends at 2^47 or before and shows a segment
-- numbered below the next one; segments are numbered below it and shown; and private pages are shown once
pub record IsWellFormed (m : Mapping) : Type 0 where
  pub ordered : IsStrictlySortedBy spot_cmp (keys_of m.areas)
  pub apart : AreasAreApart m.areas
  pub whole : AllByRecursion IsSomePages m.areas
  pub low : AllByRecursion EndsLow m.areas
  pub indices : AllByRecursion HasIndices m.areas
  pub named : IsStrictlySortedBy nat_cmp (keys_of m.segments)
  pub below : AllByRecursion (λ a. a.1.page.segment < m.next) m.areas
  pub numbers : AllByRecursion (λ e. e.0 < m.next) m.segments
  pub lengths : AllByRecursion (λ e. e.1.pages ≤ 2 ^ 35) m.segments
  pub shown : AllShown m.areas m.segments
  pub once : PrivateIsOnce m.areas m.segments
  pub places : IsStrictlySortedBy page_cmp (keys_of m.place)

-- how many whole pages `len` bytes take, rounded up
abbrev pub page_count : ℕ → ℕ
page_count len = (len + 4095) / 4096

-- the part of an area from one page number up to another, with this policy
abbrev pub inside : ℕ → ℕ → Policy → PlacedArea → List PlacedArea
inside first end policy a =
    let from = max first a.0.1 in
    let last = min end (a.0.1 + a.1.pages) in
    let page : Page = record { segment = a.1.page.segment; index = a.1.page.index + (from - a.0.1) } in
    let part : Area = record { pages = last - from; policy = policy; page = page } in
    if nat_lt from last then ((a.0.0, from), part) ∷ [] else []

-- the parts of an area before, inside and after the range
abbrev pub parts_with_policy : ℕ → ℕ → ℕ → Policy → PlacedArea → List PlacedArea
parts_with_policy pid first end policy a =
    if a.0.0 == pid then before first a ++ inside first end policy a ++ behind end a else a ∷ []

-- whether areas of the process cover each of the `count` page numbers from `first` on
abbrev pub is_well_formed : Map (ℕ × ℕ) Area → ℕ → ℕ → ℕ → Bool
is_well_formed areas pid first count = list_all (λ v. is_some (area_over areas pid v)) (up_from first count)

-- the areas, with those of the process split at a page number ...
abbrev pub split_at : ℕ → ℕ → Map (ℕ × ℕ) Area → Map (ℕ × ℕ) Area
split_at pid at areas = flat_map (parts_outside pid at at) areas

-- ... and the policy of an area that begins in the range replaced
abbrev pub with_policy_in : ℕ → ℕ → ℕ → Policy → ℕ × ℕ → Area → Area
with_policy_in pid first end policy spot area =
    if (spot.0 == pid) && (nat_le first spot.1 && nat_lt spot.1 end) then record area { policy = policy } else area

-- no areas, no segments, and no page with a frame
abbrev pub no_areas : Mapping
no_areas = record { areas = []; segments = []; next = 0; place = [] }

-- an area over a range of a segment, with the default policy
abbrev pub new_area : ℕ → ℕ → ℕ → Area
new_area segment offset pages =
    record { pages = pages; policy = Default; page = record { segment = segment; index = offset } }

-- an area over a range of a segment is added
abbrev pub with_area : Mapping → ℕ → ℕ → ℕ → ℕ → ℕ → Mapping
with_area m pid address segment offset pages =
    record m { areas = set spot_cmp m.areas (pid, address / 4096) (new_area segment offset pages) }

-- the area over a page number when another area is added
abbrev pub over_with : Map (ℕ × ℕ) Area → PlacedArea → ℕ → ℕ → Option PlacedArea
over_with areas a q v = if covers a q v then Some a else area_over areas q v

-- a new segment, and an area over all of it, are added
abbrev pub with_segment : Mapping → ℕ → ℕ → ℕ → Bool → Mapping
with_segment m pid address pages shared =
    let areas = set spot_cmp m.areas (pid, address / 4096) (new_area m.next 0 pages) in
    let segments = set nat_cmp m.segments m.next (record { pages = pages; shared = shared }) in
    record m { areas = areas; segments = segments; next = suc m.next }

-- the areas of a process are split at both ends of a range, and those inside get this policy; an empty range splits none
abbrev pub with_policy : Mapping → ℕ → ℕ → ℕ → Policy → Mapping
with_policy m pid first end policy =
    if nat_lt first end then record m { areas = flat_map (parts_with_policy pid first end policy) m.areas } else m

-- the frame of a page is set
abbrev pub with_frame : Mapping → Page → ℕ → Mapping
with_frame m page frame = record m { place = set page_cmp m.place page frame }

-- the frame of a page that has one is replaced
abbrev pub with_frame_of : Mapping → Page → ℕ → Mapping
with_frame_of m page frame = record m { place = replace page_cmp m.place page frame }

-- the frame of a page is removed
abbrev pub without_frame : Mapping → Page → Mapping
without_frame m page = record m { place = without page_cmp m.place page }

-- the areas that are left when a process unmaps a range
abbrev pub areas_left : Map (ℕ × ℕ) Area → ℕ → ℕ → ℕ → Map (ℕ × ℕ) Area
areas_left areas pid first end = flat_map (parts_outside pid first end) areas

-- the segments that some area shows
abbrev pub segments_left : Map ℕ Segment → Map (ℕ × ℕ) Area → Map ℕ Segment
segments_left segments areas = filter (λ e. list_any (shows_segment e.0) areas) segments

-- the pages that a process's areas show in a range, in address order
abbrev pub pages_gone : Map (ℕ × ℕ) Area → ℕ → ℕ → ℕ → List Page
pages_gone areas pid first end = flat_map (pages_between first end) (filter (λ a. a.0.0 == pid) areas)

-- a page that no area covers loses its frame
abbrev pub place_left : Map (ℕ × ℕ) Area → Map Page ℕ → Page → Map Page ℕ
place_left areas place p = if is_covered areas p then place else without page_cmp place p

-- a page with its frame, if it has one
abbrev pub with_its_frame : Page → Option ℕ → List (Page × ℕ)
with_its_frame p None = []
with_its_frame p (Some frame) = (p, frame) ∷ []

-- a page that no area covers, with the frame that it loses
abbrev pub lost_page : Map (ℕ × ℕ) Area → Map Page ℕ → Page → List (Page × ℕ)
lost_page areas place p = if is_covered areas p then [] else with_its_frame p (get page_cmp place p)

-- the pages of a list that lose their frames, each once
abbrev pub all_lost : Map (ℕ × ℕ) Area → Map Page ℕ → List Page → List (Page × ℕ)
all_lost areas place [] = []
all_lost areas place (p ∷ pages) = lost_page areas place p ++ all_lost areas (place_left areas place p) pages

-- a process unmaps a range: it loses the parts of its areas there, segments that no area shows are removed, and pages
-- that no area covers lose their frames
abbrev pub after_removal : Mapping → ℕ → ℕ → ℕ → Mapping
after_removal m pid first end =
    let areas = areas_left m.areas pid first end in
    record m {
      areas = areas;
      segments = segments_left m.segments areas;
      place = fold (place_left areas) m.place (pages_gone m.areas pid first end);
    }

-- the pages that lose their frames when a process unmaps a range, in address order, each page at its lowest address
abbrev pub frames_lost : Mapping → ℕ → ℕ → ℕ → List (Page × ℕ)
frames_lost m pid first end =
    all_lost (areas_left m.areas pid first end) m.place (pages_gone m.areas pid first end)

-- whether an area of the process begins in a range
abbrev pub begins_in : ℕ → ℕ → ℕ → ℕ × ℕ → Bool
begins_in pid at end spot = (spot.0 == pid) && (nat_le at spot.1 && nat_lt spot.1 end)

-- whether this is an area of the process that begins in a range
abbrev pub is_own : ℕ → ℕ → ℕ → PlacedArea → Bool
is_own pid at end a = begins_in pid at end a.0

-- the page shown at a page number, or none inside a range of a process
abbrev pub page_outside : Map (ℕ × ℕ) Area → ℕ → ℕ → ℕ → ℕ → ℕ → Option Page
page_outside areas pid first end q v = if begins_in pid first end (q, v) then None else page_at areas q v

-- all areas except those of a process that begin in a range
abbrev pub others : ℕ → ℕ → ℕ → Map (ℕ × ℕ) Area → Map (ℕ × ℕ) Area
others pid first end areas = filter (λ a. not (is_own pid first end a)) areas

-- the table without these areas, and without segments that no area shows
abbrev pub without_own : Table → ℕ → ℕ → ℕ → Table
without_own t pid first end =
    let areas = others pid first end t.areas in
    record t { areas = areas; segments = segments_left t.segments areas }

-- all pages that an area shows
abbrev pub pages_of_area : Area → List Page
pages_of_area area = pages_from area.page.segment area.page.index area.pages

-- all pages shown by areas of a process that begin in a range
abbrev pub pages_of_own : ℕ → ℕ → ℕ → Map (ℕ × ℕ) Area → List Page
pages_of_own pid at end areas = flat_map (λ a. pages_of_area a.1) (filter (is_own pid at end) areas)

-- the page at an index of a segment
abbrev pub page_in : ℕ → ℕ → Page
page_in segment index = record { segment = segment; index = index }

-- no area covers a page of this area if its segment is private
abbrev pub IsAlone : Map (ℕ × ℕ) Area → Area → Bool → Type 0
IsAlone areas area shared =
    shared ≡ false → (i : ℕ) → area.page.index ≤ i → i < area.page.index + area.pages
    → is_covered areas (page_in area.page.segment i) ≡ false
