use Rattle.std.proofs.Common.{◌≡◌, ◌≤◌, ◌++◌, length}
use Rattle.std.specs.Slice.Iter.{chunks_rest, chunks_size}
use Rattle.nm_runs.specs.Stretches.{stretches_of}
use Rattle.nm_model.specs.definitions.Cut.{all_to, cut_within}
use Rattle.nm_passes.proofs.passes.runs_to.Given as goal

abbrev pub invariant-loop-piece : goal.invariant-loop-piece
invariant-loop-piece g l =
    (goal.iterator-loop-piece g).can_next l.piece-iterator
    × (goal.iterator-loop-piece g).is_finite l.piece-iterator
    × (chunks_size l.piece-iterator ≡ l.fn.limit)
    × (length (chunks_rest l.piece-iterator) ≤ length l.fn.wanted)
    × (stretches_of l.made.items ++ cut_within l.fn.limit (all_to l.fn.target (chunks_rest l.piece-iterator)) ≡ cut_within l.fn.limit (all_to l.fn.target l.fn.wanted))
