use Rattle.std.proofs.Common.{◌≡◌, ◌≤◌, ◌+◌, ◌-◌}
use Rattle.nm_spaces.specs.views.ProcessTable.{without_entries}
use Rattle.nm_spaces.specs.definitions.Tied.{IsCleared}
use Rattle.nm_spaces.proofs.address_spaces.areas.clear_between.Given as goal

abbrev pub invariant-loop-vpn : goal.invariant-loop-vpn
invariant-loop-vpn g l = record {
  tasks : l.tasks ≡ without_entries l.fn.tasks l.pid l.fn.first l.at;
  rmap : IsCleared l.fn.rmap l.rmap l.pid l.fn.first l.at l.fn.tasks;
  from : l.fn.first ≤ l.at;
  up : l.at ≤ l.fn.first + (l.end - l.fn.first);
}

abbrev pub decreases-loop-vpn : goal.decreases-loop-vpn
decreases-loop-vpn g l = l.end - l.at
