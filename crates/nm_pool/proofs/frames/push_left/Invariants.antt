use Rattle.std.proofs.Common.{◌≡◌, ◌≤◌, ◌+◌, ◌++◌, length, drop}
use Rattle.std.specs.Prelude.{vec_len, vec_capacity}
use Rattle.nm_model.specs.definitions.Run.{frames_left}
use Rattle.nm_pool.proofs.frames.push_left.Given as goal

abbrev pub invariant-loop-taken : goal.invariant-loop-taken
invariant-loop-taken g l = record {
  items : l.vacated.items ++ frames_left (drop l.taken-index l.moves) ≡ l.fn.vacated.items ++ frames_left l.moves;
  fits : vec_len l.vacated + length (drop l.taken-index l.moves) ≤ vec_capacity l.vacated;
  room : vec_capacity l.vacated ≡ vec_capacity l.fn.vacated;
}
