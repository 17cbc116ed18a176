use Rattle.std.proofs.Common.{◌≡◌, ◌≤◌, ◌+◌, length, map, take, drop}
use Rattle.std.specs.Prelude.{vec_len, vec_capacity, IfSome}
use Rattle.nm_runs.specs.Shown.{class_shown}
use Rattle.nm_runs.proofs.classes.classes_of.Given as goal

abbrev pub invariant-loop-request : goal.invariant-loop-request
invariant-loop-request g l = record {
  classes : l.classes.items ≡ map (class_shown l.fn.geometry (g.V.PageView.seen_at l.fn.view) (g.V.PageView.placed_at l.fn.view) l.fn.target) (take l.request-index l.wanted);
  last : IfSome l.last (λ b. b.1 ≡ class_shown l.fn.geometry (g.V.PageView.seen_at l.fn.view) (g.V.PageView.placed_at l.fn.view) l.fn.target b.0);
  room : vec_len l.classes + length (drop l.request-index l.wanted) ≤ vec_capacity l.classes;
}
