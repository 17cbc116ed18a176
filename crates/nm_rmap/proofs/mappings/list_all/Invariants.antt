use Rattle.std.proofs.Common.{◌≡◌, ◌+◌, ◌≤◌, ◌++◌, length}
use Rattle.std.specs.Prelude.{vec_len, vec_capacity}
use Rattle.nm_rmap.proofs.mappings.list_all.Given as goal

-- what is listed and what is left are all
abbrev pub invariant-loop-spot : goal.invariant-loop-spot
invariant-loop-spot g l = record {
  spots : l.spots.items ++ l.spot-iterator ≡ l.tree.keys;
  room : vec_len l.spots + length l.spot-iterator ≤ vec_capacity l.spots;
}
