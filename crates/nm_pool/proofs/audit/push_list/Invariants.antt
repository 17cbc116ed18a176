use Rattle.std.proofs.Common.{◌≡◌, ◌++◌, take}
use Rattle.std.specs.Prelude.{map, ℕ}
use Rattle.nm_model.specs.definitions.Frames.{list_of}
use Rattle.nm_pool.proofs.audit.push_list.Given as goal

abbrev pub invariant-loop-k : goal.invariant-loop-k
invariant-loop-k g l = l.free.items ≡ l.fn.free.items ++ map {B = ℕ × ℕ} (λ (frame : ℕ). (l.node, frame)) (take l.k (list_of l.nodes l.node))
