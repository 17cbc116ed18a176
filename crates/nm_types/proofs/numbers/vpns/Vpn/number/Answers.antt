use Rattle.std.proofs.Common.{arith}
use Rattle.nm_types.proofs.numbers.vpns.Vpn.number.Goals as goal

pub returns : goal.returns
returns c = omega arith
