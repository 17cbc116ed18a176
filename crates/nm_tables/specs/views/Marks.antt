-- Marks at places: one bit each, 64 to a word.
use Rattle.std.specs.Prelude.{ℕ, ◌/◌, ◌%◌, Bool, List, ◌==◌, slice_index_or}
use Rattle.std.specs.Int.{bit_at}

-- whether the bit of a place is set
abbrev pub is_marked : List ℕ → ℕ → Bool
is_marked words place = bit_at (slice_index_or words (place / 64) 0) (place % 64) == 1
