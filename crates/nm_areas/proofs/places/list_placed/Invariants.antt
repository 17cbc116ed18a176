use Rattle.std.proofs.Common.{◌≡◌, ◌+◌, ◌≤◌, ◌++◌, length}
use Rattle.std.specs.Prelude.{vec_len, vec_capacity}
use Rattle.nm_areas.proofs.places.list_placed.Given as goal

-- what is listed and what is left are all
abbrev pub invariant-loop-page : goal.invariant-loop-page
invariant-loop-page g l = record {
  placed : l.placed.items ++ l.page-iterator ≡ l.places.entries;
  room : vec_len l.placed + length l.page-iterator ≤ vec_capacity l.placed;
}
