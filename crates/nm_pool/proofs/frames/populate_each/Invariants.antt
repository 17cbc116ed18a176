use Rattle.std.proofs.Common.{ℕ, ◌<◌, length, drop}
use Rattle.std.specs.List.{AllByRecursion}
use Rattle.nm_pool.specs.views.Populated.{IsPopulated}
use Rattle.nm_model.specs.definitions.BeforeCopy.{frames_taken}
use Rattle.nm_model.specs.definitions.Frames.{Store, IsHome}
use Rattle.nm_pool.specs.views.Frames.{KeepsBytes, in_memory}
use Rattle.nm_pool.proofs.frames.populate_each.Given as goal

abbrev pub invariant-loop-taken : goal.invariant-loop-taken
invariant-loop-taken g l = let rest = frames_taken (drop l.taken-index l.moves) in record {
  kept : KeepsBytes (in_memory l.fn.frames) (in_memory l.frames);
  inside : AllByRecursion (λ frame. frame < length (in_memory l.frames)) rest;
  home : (f : ℕ) → f < length (in_memory l.frames) → IsHome (in_memory l.frames) f;
  whole : AllByRecursion (IsPopulated (in_memory l.fn.frames)) (frames_taken l.moves) → AllByRecursion (IsPopulated (in_memory l.fn.frames)) rest;
  populated : (s : Store) → KeepsBytes (in_memory l.frames) s → AllByRecursion (IsPopulated s) rest → AllByRecursion (IsPopulated s) (frames_taken l.moves);
}
