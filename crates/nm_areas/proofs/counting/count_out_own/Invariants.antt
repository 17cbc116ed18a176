use Rattle.std.proofs.Common.{◌≤◌, ◌+◌, ◌-◌}
use Rattle.std.specs.List.{filter}
use Rattle.nm_areas.specs.Coverage.{IsSteps, of_shared, ends_at, covers_at}
use Rattle.nm_model.specs.definitions.Areas.{others, is_own}
use Rattle.nm_areas.proofs.counting.count_out_own.Given as goal

abbrev pub invariant-loop-start : goal.invariant-loop-start
invariant-loop-start g l =
    let left = others l.pid l.fn.first l.end l.table.areas in
    let own = filter (is_own l.pid l.at l.end) l.table.areas in
    record {
      steps : IsSteps l.steps (of_shared l.table.segments (λ p. ends_at left p + ends_at own p)) (of_shared l.table.segments (λ p. covers_at left p + covers_at own p));
      low : l.fn.first ≤ l.at;
      up : l.at ≤ l.end;
    }

abbrev pub decreases-loop-start : goal.decreases-loop-start
decreases-loop-start g l = l.end - l.at
