use Rattle.std.proofs.Common.{◌≡◌, ◌≤◌, ◌+◌, ◌++◌, length, drop}
use Rattle.std.specs.Prelude.{vec_len, vec_capacity}
use Rattle.std.specs.List.{AllByRecursion}
use Rattle.nm_pool.specs.views.Copies.{CanCopy, HasBoth, without_moves, jobs_of}
use Rattle.nm_pool.specs.views.Frames.{in_memory}
use Rattle.nm_pool.proofs.frames.in_flight.take_out_each.Given as goal

abbrev pub invariant-loop-taken : goal.invariant-loop-taken
invariant-loop-taken g l = let rest = drop l.taken-index l.moves in record {
  can : CanCopy (in_memory l.frames) rest;
  populated : AllByRecursion (HasBoth (in_memory l.frames)) rest;
  frames : without_moves (in_memory l.frames) rest ≡ without_moves (in_memory l.fn.frames) l.moves;
  jobs : l.jobs.items ++ jobs_of (vec_len l.jobs) (in_memory l.frames) rest ≡ l.fn.jobs.items ++ jobs_of (vec_len l.fn.jobs) (in_memory l.fn.frames) l.moves;
  fits : vec_len l.jobs + length rest ≤ vec_capacity l.jobs;
  room : vec_capacity l.jobs ≡ vec_capacity l.fn.jobs;
}
