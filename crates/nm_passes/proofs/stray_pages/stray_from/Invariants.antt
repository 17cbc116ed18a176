use Rattle.std.proofs.Common.{◌≡◌, ◌≤◌, ◌-◌}
use Rattle.std.specs.Prelude.{IfSome}
use Rattle.nm_model.specs.definitions.Seen.{IsOver}
use Rattle.nm_passes.specs.definitions.Placement.{strays_between}
use Rattle.nm_passes.proofs.stray_pages.stray_from.Given as goal

abbrev pub invariant-loop-page : goal.invariant-loop-page
invariant-loop-page g l = record {
  from : l.fn.first ≤ l.at;
  same : strays_between l.machine l.pid l.fn.first l.end l.policy ≡ strays_between l.machine l.pid l.at l.end l.policy;
  last : IfSome l.last (IsOver l.machine.areas l.pid);
}

abbrev pub decreases-loop-page : goal.decreases-loop-page
decreases-loop-page g l = l.end - l.at
