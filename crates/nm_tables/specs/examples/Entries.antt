-- A worked example: two pages are set, one of them is held, and one is cleared.
use Rattle.std.specs.Prelude.{◌≡◌, ℕ, [], ◌∷◌}
use Rattle.std.specs.Ordering.{nat_cmp}
use Rattle.nm_types.specs.Map.{Map, set, replace, without}
use Rattle.nm_types.specs.declared.entry.Entry.{Entry}
use Rattle.nm_types.specs.declared.entry.Entry.TheVariants.{Zero, Frame, Held}

-- page 16 was the page of zeros and is on its way to frame 2; the last page number inside areas is in frame 3
abbrev pub two_pages : Map ℕ Entry
two_pages = replace nat_cmp (set nat_cmp (set nat_cmp [] 16 Zero) 34359738367 (Frame 3)) 16 (Held 2)

-- both are listed in ascending order
abbrev pub EntriesStandUpwards : Type 0
EntriesStandUpwards = two_pages ≡ (16, Held 2) ∷ (34359738367, Frame 3) ∷ []

-- without page 16 only the other is left
abbrev pub ClearedEntryIsGone : Type 0
ClearedEntryIsGone = without nat_cmp two_pages 16 ≡ (34359738367, Frame 3) ∷ []
