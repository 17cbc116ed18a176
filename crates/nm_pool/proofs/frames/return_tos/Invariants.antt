use Rattle.std.proofs.Common.{◌≡◌, ◌≤◌, ◌++◌, length, drop}
use Rattle.nm_model.specs.definitions.Frames.{list_of, with_list}
use Rattle.nm_model.specs.definitions.BeforeCopy.{frames_taken}
use Rattle.nm_pool.proofs.frames.return_tos.Given as goal

abbrev pub invariant-loop-left : goal.invariant-loop-left
invariant-loop-left g l = record {
  nodes : l.nodes ≡ with_list l.fn.nodes l.fn.node (drop l.left (frames_taken l.moves) ++ list_of l.fn.nodes l.fn.node);
  few : l.left ≤ length l.moves;
}

abbrev pub decreases-loop-left : goal.decreases-loop-left
decreases-loop-left g l = l.left
