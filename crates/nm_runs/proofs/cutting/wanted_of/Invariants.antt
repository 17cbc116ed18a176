use Rattle.std.proofs.Common.{◌≡◌, ◌≤◌, ◌+◌, ◌++◌, length, drop}
use Rattle.std.specs.Prelude.{vec_len, vec_capacity}
use Rattle.nm_model.specs.definitions.Cut.{wanted_of}
use Rattle.nm_runs.proofs.cutting.wanted_of.Given as goal

abbrev pub invariant-loop-request : goal.invariant-loop-request
invariant-loop-request g l = record {
  items : l.wanted.items ++ wanted_of (drop l.request-index l.requests) ≡ wanted_of l.requests;
  fits : vec_len l.wanted + length (drop l.request-index l.requests) ≤ vec_capacity l.wanted;
}
