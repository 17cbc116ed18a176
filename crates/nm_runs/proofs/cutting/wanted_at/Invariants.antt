use Rattle.std.proofs.Common.{◌≡◌, ◌≤◌, ◌+◌, ◌++◌, length, map, drop}
use Rattle.std.specs.Prelude.{vec_len, vec_capacity}
use Rattle.nm_runs.proofs.Pages.{at_address}
use Rattle.nm_runs.proofs.cutting.wanted_at.Given as goal

abbrev pub invariant-loop-address : goal.invariant-loop-address
invariant-loop-address g l = record {
  items : l.wanted.items ++ map (at_address l.fn.pid l.fn.all) (drop l.address-index l.addresses) ≡ map (at_address l.fn.pid l.fn.all) l.addresses;
  fits : vec_len l.wanted + length (drop l.address-index l.addresses) ≤ vec_capacity l.wanted;
}
