-- A finite map as the list of its entries, in key order.
use Rattle.std.specs.Prelude.{ℕ, Bool, List, map, Option}
use Rattle.std.specs.Ordering.{nat_cmp, ordering_then, eq_by_cmp}
use Rattle.std.specs.declared.cmp.Ordering.{Ordering}
use Rattle.std.specs.Map.{lookup, remove_entry, set_value}
use Rattle.std.specs.BTreeMap.{insert_entry, is_at}
use Rattle.nm_types.specs.declared.page.Page.{Page}

abbrev pub Map : Type 0 → Type 0 → Type 0
Map K V = List (K × V)

-- the order of pages: by segment, then by index
abbrev pub page_cmp : Page → Page → Ordering
page_cmp p q = ordering_then (nat_cmp p.segment q.segment) (nat_cmp p.index q.index)

abbrev pub same_page : Page → Page → Bool
same_page p q = eq_by_cmp page_cmp p q

-- the order of a process's page numbers: by pid, then by page number
abbrev pub spot_cmp : ℕ × ℕ → ℕ × ℕ → Ordering
spot_cmp a b = ordering_then (nat_cmp a.0 b.0) (nat_cmp a.1 b.1)

module _ {K V : Type 0} (R : K → K → Ordering) where
  -- the value at a key
  abbrev pub get : Map K V → K → Option V
  get m k = lookup (is_at (R k)) m

  -- the map with this value at a key
  abbrev pub set : Map K V → K → V → Map K V
  set m k v = insert_entry R m k v

  -- the map with another value at a key that it has
  abbrev pub replace : Map K V → K → V → Map K V
  replace m k v = set_value (is_at (R k)) m v

  -- the map without a key
  abbrev pub without : Map K V → K → Map K V
  without m k = remove_entry (is_at (R k)) m

-- the map with each value replaced by a function of its key and value
abbrev pub with_values : {K V W : Type 0} → (K → V → W) → Map K V → Map K W
with_values {K} {V} {W} f m = map {B = K × W} (λ (e : K × V). (e.0, f e.0 e.1)) m
