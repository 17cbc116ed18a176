use Rattle.std.proofs.Common.{◌≡◌, ◌≤◌, length, take, vec_len, vec_capacity}
use Rattle.nm_calls.specs.definitions.Entries.{entries_mapped, entries_shown}
use Rattle.nm_calls.proofs.system.mapped_of.Given as goal

abbrev pub invariant-loop-vpn : goal.invariant-loop-vpn
invariant-loop-vpn g l = record {
  mapped : entries_mapped l.mapped.items ≡ entries_shown (take l.vpn-index l.entries);
  at : vec_len l.mapped ≡ l.vpn-index;
  room : length l.entries ≤ vec_capacity l.mapped;
}
