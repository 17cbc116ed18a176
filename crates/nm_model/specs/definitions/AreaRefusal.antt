-- Which calls are refused, and with which error.
use Rattle.std.specs.Prelude.{ℕ, ◌+◌, ◌*◌, ◌/◌, ◌%◌, ◌^◌, ◌==◌, nat_lt, nat_le, Bool, false, not, ◌&&◌, ◌||◌, List, [], ◌∷◌, Option, Some, None, if◌then◌else◌}
use Rattle.std.specs.Option.{unwrap_or, option_map}
use Rattle.std.specs.Ordering.{nat_cmp}
use Rattle.std.specs.List.{list_any}
use Rattle.nm_types.specs.declared.area.Area.{Area}
use Rattle.nm_types.specs.declared.area.Segment.{Segment}
use Rattle.nm_types.specs.declared.errno.Errno.{Errno}
use Rattle.nm_types.specs.declared.errno.Errno.TheVariants.{Enomem, Efault, Einval}
use Rattle.nm_types.specs.Map.{Map, get}
use Rattle.nm_types.specs.State.{PlacedArea}
use Rattle.nm_model.specs.definitions.Areas.{Mapping, page_count, is_well_formed}

-- the first of these errors whose condition holds
abbrev pub first_error : List (Bool × Errno) → Option Errno
first_error [] = None
first_error (e ∷ es) = if e.0 then Some e.1 else first_error es

-- a range of whole pages: at least one, ending at 2^47 or before
abbrev pub is_range : ℕ → ℕ → Bool
is_range address pages = (address % 4096 == 0) && nat_lt 0 pages && nat_le (address / 4096 + pages) (2 ^ 35)

-- whether an area of the process covers one of these page numbers
abbrev pub overlaps : ℕ → ℕ → ℕ → PlacedArea → Bool
overlaps pid first end a = (a.0.0 == pid) && nat_lt a.0.1 end && nat_lt first (a.0.1 + a.1.pages)

-- whether an area may be made there
abbrev pub is_room : Map (ℕ × ℕ) Area → ℕ → ℕ → ℕ → Bool
is_room areas pid address pages =
    is_range address pages && not (list_any (overlaps pid (address / 4096) (address / 4096 + pages)) areas)

-- EINVAL: no room for the area; ENOMEM: no segment number is left
abbrev pub insert_refusal : Mapping → ℕ → ℕ → ℕ → Option Errno
insert_refusal m pid address pages =
    let full = nat_le 65536 m.next in
    first_error ((not (is_room m.areas pid address pages), Einval) ∷ (full, Enomem) ∷ [])

-- whether the segment exists, is shared, and has `pages` pages from `offset` on
abbrev pub is_stretch : Option Segment → ℕ → ℕ → Bool
is_stretch o offset pages =
    unwrap_or (option_map (λ segment. segment.shared && nat_le (offset + pages) segment.pages) o) false

-- EINVAL: no room for the area, or no such range of a shared segment
abbrev pub stretch_refusal : Mapping → ℕ → ℕ → ℕ → ℕ → ℕ → Option Errno
stretch_refusal m pid address segment offset pages =
    let fits = is_room m.areas pid address pages && is_stretch (get nat_cmp m.segments segment) offset pages in
    first_error ((not fits, Einval) ∷ [])

-- EINVAL: an address inside a page, or an end past 2^64 - 1; EFAULT: a page without an area
abbrev pub range_refusal : Mapping → ℕ → ℕ → ℕ → Option Errno
range_refusal m pid address len =
    let pages = page_count len in
    let bad = not (address % 4096 == 0) || nat_le (2 ^ 64) (address + 4096 * pages) in
    let hole = not (is_well_formed m.areas pid (address / 4096) pages) in
    first_error ((bad, Einval) ∷ (hole, Efault) ∷ [])
