-- The relations between page tables, areas and the reverse map.
use Rattle.std.specs.Prelude.{◌≡◌, ℕ, ◌<◌, ◌==◌, nat_lt, nat_le, Bool, true, not, ◌&&◌, List, length, Option, Some}
use Rattle.std.specs.BTreeMap.{is_at}
use Rattle.std.specs.List.{AllByRecursion, list_any}
use Rattle.std.specs.List.Sorted.{IsStrictlySortedBy}
use Rattle.std.specs.Map.{keys_of}
use Rattle.std.specs.Ordering.{nat_cmp}
use Rattle.nm_types.specs.declared.page.Page.{Page}
use Rattle.nm_types.specs.Map.{Map, get, page_cmp, spot_cmp}
use Rattle.nm_types.specs.State.{page_at}
use Rattle.nm_types.specs.declared.entry.Entry.{Entry}
use Rattle.nm_types.specs.declared.entry.Entry.TheVariants.{Held}
use Rattle.nm_model.specs.definitions.Areas.{Mapping}
use Rattle.nm_rmap.specs.Mappers.{Mappers, mappers_of, frame_pins}
use Rattle.nm_model.specs.definitions.PageTables.{Task}
use Rattle.nm_model.specs.definitions.PageTables.{entry_at}
use Rattle.nm_spaces.specs.views.ProcessTable.{names}

-- whether a page number of a process is among these
abbrev pub has_spot : List (ℕ × ℕ) → ℕ × ℕ → Bool
has_spot mappings spot = list_any (is_at (spot_cmp spot)) mappings

-- the processes, and the entries of each, are in order
pub record AreInOrder (tasks : Map ℕ Task) : Type 0 where
  pub pids : IsStrictlySortedBy nat_cmp (keys_of tasks)
  pub tables : AllByRecursion (λ e. IsStrictlySortedBy nat_cmp (keys_of e.1.table)) tasks

pub record IsTied (tasks : Map ℕ Task) (m : Mapping) (r : Mappers) : Type 0 where
  -- the maps have their keys in order
  pub pids : IsStrictlySortedBy nat_cmp (keys_of tasks)
  pub tables : AllByRecursion (λ e. IsStrictlySortedBy nat_cmp (keys_of e.1.table)) tasks
  pub places : IsStrictlySortedBy page_cmp (keys_of m.place)
  -- a frame's mappers are exactly the entries that name it
  pub mappers : (f pid v : ℕ) → has_spot (mappers_of r f) (pid, v) ≡ names f (entry_at tasks pid v)
  -- an entry names the frame of the page shown there
  pub shows :
      (f pid v : ℕ) → names f (entry_at tasks pid v) ≡ true →
      (p : Page) × (page_at m.areas pid v ≡ Some p) × (get page_cmp m.place p ≡ Some f)
  -- no frame has two pages
  pub apart : (p q : Page) (f : ℕ) → get page_cmp m.place p ≡ Some f → get page_cmp m.place q ≡ Some f → p ≡ q
  -- a frame without a page has no pins
  pub pinned : (f : ℕ) → ((p : Page) → get page_cmp m.place p ≡ Some f → ⊥) → frame_pins r f ≡ 0
  pub in_range : (p : Page) (f : ℕ) → get page_cmp m.place p ≡ Some f → f < length r.mappings
  pub as_many : length r.pins ≡ length r.mappings
  -- no page is on its way to another frame
  pub settled : (f pid v : ℕ) → entry_at tasks pid v ≡ Some (Held f) → ⊥

-- whether a page number of a process is in this range of a process
abbrev pub is_in_range : ℕ → ℕ → ℕ → ℕ × ℕ → Bool
is_in_range pid first end spot = (spot.0 == pid) && (nat_le first spot.1 && nat_lt spot.1 end)

-- mappers that were entries of the process in the range are removed, and pins do not change
pub record IsCleared (r t : Mappers) (pid first end : ℕ) (tasks : Map ℕ Task) : Type 0 where
  pub mappings :
      (f : ℕ) (spot : ℕ × ℕ) →
      has_spot (mappers_of t f) spot
      ≡ (has_spot (mappers_of r f) spot && not (is_in_range pid first end spot && names f (entry_at tasks spot.0 spot.1)))
  pub frames : length t.mappings ≡ length r.mappings
  pub pins : t.pins ≡ r.pins

-- a mapper of a frame is removed, if the entry names a frame
abbrev pub IsLess : Mappers → Mappers → ℕ × ℕ → Option Entry → Type 0
IsLess r t spot o =
    (g : ℕ) (s : ℕ × ℕ) →
    has_spot (mappers_of t g) s ≡ (has_spot (mappers_of r g) s && not (is_at (spot_cmp s) spot && names g o))

-- the mappers without the one that this entry was
pub record IsWithout (r t : Mappers) (spot : ℕ × ℕ) (o : Option Entry) : Type 0 where
  pub less : IsLess r t spot o
  pub frames : length t.mappings ≡ length r.mappings
  pub pins : t.pins ≡ r.pins
