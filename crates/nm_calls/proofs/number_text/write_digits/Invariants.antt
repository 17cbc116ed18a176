use Rattle.std.proofs.Common.{◌≡◌, ◌≤◌, ◌<◌, ◌+◌, ◌^◌, ◌++◌, length, drop, take, false}
use Rattle.std.specs.Fmt.{digits}
use Rattle.nm_calls.proofs.Lines.Addresses.{spelled}
use Rattle.nm_calls.proofs.number_text.write_digits.Given as goal

abbrev pub invariant-loop-rest : goal.invariant-loop-rest
invariant-loop-rest l = record {
  within : l.at ≤ 15;
  long : length l.text ≡ 19;
  fits : l.rest < 16 ^ (l.at + 1);
  written : spelled (l.at + 49) l.rest (drop (l.at + 1) l.text) ≡ digits 16 false l.number ++ drop 16 l.fn.text;
  before : take (l.at + 1) l.text ≡ take (l.at + 1) l.fn.text;
}

abbrev pub decreases-loop-rest : goal.decreases-loop-rest
decreases-loop-rest l = l.rest
