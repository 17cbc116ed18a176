-- A worked example of a view.
use Rattle.std.specs.Prelude.{ℕ, ◌==◌, true, false, if◌then◌else◌}
use Rattle.nm_types.specs.declared.seen.Seen.{Seen}
use Rattle.nm_types.specs.declared.seen.Seen.TheVariants.{NoArea, Absent, Zero, At}

-- the page of zeros, an untouched page number, a pinned page, a page without a pin, a page of two processes, and such a
-- page with a pin on the second node
abbrev pub row_seen : ℕ → Seen
row_seen v =
    if v == 16 then Zero
    else (if v == 17 then Absent
    else (if v == 18 then At (record { segment = 0; index = 2 }) 0 1 true
    else (if v == 19 then At (record { segment = 0; index = 3 }) 1 1 false
    else (if v == 20 then At (record { segment = 0; index = 4 }) 2 2 false
    else (if v == 21 then At (record { segment = 0; index = 5 }) 4 2 true else NoArea)))))
