use Rattle.std.proofs.Common.{◌≡◌, ◌++◌, ◌≤◌, ◌+◌, [], length, drop}
use Rattle.nm_model.specs.definitions.Decide.{decide}
use Rattle.nm_plan.specs.Found.{Finds}
use Rattle.nm_plan.proofs.planning.plan.Given as goal

abbrev pub invariant-loop-class : goal.invariant-loop-class
invariant-loop-class g l =
    let rest = decide (drop l.class-index l.classes) l.moves.items (drop (length l.moves.items) l.free_front) l.target in
    record {
      statuses : l.statuses.items ++ rest.statuses ≡ (decide l.classes [] l.free_front l.target).statuses;
      moves : l.moves.items ++ rest.taken ≡ (decide l.classes [] l.free_front l.target).taken;
      found : Finds l.search l.moves.items;
      status_room : length l.statuses.items + length (drop l.class-index l.classes) ≤ l.statuses.cap;
      move_room : length l.moves.items + length (drop l.class-index l.classes) ≤ l.moves.cap;
    }
