use Rattle.std.proofs.Common.{◌≡◌, take, flat_map}
use Rattle.nm_runs.proofs.parallel.join_parts.Given as goal

abbrev pub invariant-loop-piece : goal.invariant-loop-piece
invariant-loop-piece g l = l.list.items ≡ flat_map (λ piece. piece.items) (take l.piece-index l.pieces)
