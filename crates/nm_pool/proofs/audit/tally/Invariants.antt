use Rattle.std.proofs.Common.{◌≡◌, ◌<◌, length, take}
use Rattle.std.specs.Prelude.{ℕ, slice_index_or}
use Rattle.nm_model.specs.definitions.Sound.{times}
use Rattle.nm_pool.proofs.audit.tally.Given as goal

abbrev pub invariant-loop-frame : goal.invariant-loop-frame
invariant-loop-frame g l = record {
  length : length l.counts.items ≡ l.count;
  times : (k : ℕ) → k < l.count → slice_index_or l.counts.items k 0 ≡ times k (take l.frame-index l.frames);
}
