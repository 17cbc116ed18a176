use Rattle.std.proofs.Common.{◌≡◌, ◌≤◌, ◌-◌}
use Rattle.std.specs.Prelude.{IfSome}
use Rattle.nm_model.specs.definitions.Seen.{IsOver, between, sights, located_in}
use Rattle.nm_spaces.proofs.address_spaces.AddressSpaces.page_from.Given as goal

abbrev pub invariant-loop-vpn : goal.invariant-loop-vpn
invariant-loop-vpn g l = record {
  from : l.fn.first ≤ l.at;
  same : located_in l.geometry l.self.place (between l.fn.first l.end (sights l.self.processes l.pid)) ≡ located_in l.geometry l.self.place (between l.at l.end (sights l.self.processes l.pid));
  last : IfSome l.last (IsOver l.self.areas l.pid);
}

abbrev pub decreases-loop-vpn : goal.decreases-loop-vpn
decreases-loop-vpn g l = l.end - l.at
