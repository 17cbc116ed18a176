use Rattle.std.proofs.Common.{◌≡◌, ◌+◌, ◌≤◌, ◌++◌, length}
use Rattle.std.specs.Prelude.{vec_len, vec_capacity}
use Rattle.std.specs.Map.{values_of}
use Rattle.nm_areas.proofs.places.list_frames.Given as goal

-- what is listed and what is left are all
abbrev pub invariant-loop-frame : goal.invariant-loop-frame
invariant-loop-frame g l = record {
  frames : l.frames.items ++ l.frame-iterator ≡ values_of l.places.entries;
  room : vec_len l.frames + length l.frame-iterator ≤ vec_capacity l.frames;
}
