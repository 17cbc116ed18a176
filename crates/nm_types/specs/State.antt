-- The state of a machine, as finite maps and lists.
use Rattle.std.specs.Prelude.{ℕ, ◌+◌, ◌-◌, nat_lt, nat_le, ◌==◌, Bool, ◌&&◌, List, [], ◌∷◌, slice_index_or, Option, Some, None, if◌then◌else◌}
use Rattle.nm_types.specs.declared.page.Page.{Page}
use Rattle.nm_types.specs.declared.area.Area.{Area}
use Rattle.nm_types.specs.declared.area.Segment.{Segment}
use Rattle.nm_types.specs.Map.{Map}
use Rattle.nm_types.specs.Layout.{Layout}
use Rattle.nm_types.specs.declared.sight.Sight.{Sight}

pub record Process : Type 0 where
  pub uid : ℕ
  pub privileged : Bool
  pub home : ℕ
  -- the nodes that it may use
  pub allowed : List ℕ
  -- by page number
  pub sees : Map ℕ Sight

pub record State : Type 0 where
  pub layout : Layout
  -- by pid
  pub processes : Map ℕ Process
  -- by pid and first page number
  pub areas : Map (ℕ × ℕ) Area
  pub segments : Map ℕ Segment
  pub next_segment : ℕ
  -- of each page that has a frame: the frame, its bytes, and its number of pins
  pub place : Map Page ℕ
  pub bytes : Map Page (List ℕ)
  pub pins : Map Page ℕ
  -- each node's free frames, front first
  pub free : List (List ℕ)
  pub online : List ℕ
  -- how many pages have moved, and how many requests have failed
  pub moved : ℕ
  pub failed : ℕ

-- an area, with its pid and first page number
abbrev pub PlacedArea : Type 0
PlacedArea = (ℕ × ℕ) × Area

-- whether an area of the process covers a page number
abbrev pub covers : PlacedArea → ℕ → ℕ → Bool
covers a pid v = (a.0.0 == pid) && (nat_le a.0.1 v && nat_lt v (a.0.1 + a.1.pages))

-- the process's area over a page number, if any
abbrev pub area_over : Map (ℕ × ℕ) Area → ℕ → ℕ → Option PlacedArea
area_over [] pid v = None
area_over (a ∷ areas) pid v = if covers a pid v then Some a else area_over areas pid v

-- the page that an area shows at a page number that it covers
abbrev pub page_of : PlacedArea → ℕ → Page
page_of a v = record { segment = a.1.page.segment; index = a.1.page.index + (v - a.0.1) }

abbrev pub page_shown : Option PlacedArea → ℕ → Option Page
page_shown None v = None
page_shown (Some a) v = Some (page_of a v)

-- the page that the process's area shows at a page number, if any
abbrev pub page_at : Map (ℕ × ℕ) Area → ℕ → ℕ → Option Page
page_at areas pid v = page_shown (area_over areas pid v) v

-- the free frames of a node
abbrev pub free_list : State → ℕ → List ℕ
free_list s node = slice_index_or s.free node []
