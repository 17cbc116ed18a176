use Rattle.std.proofs.Common.{refl}
use Rattle.nm_types.proofs.numbers.vpns.Vpn.offset.Goals as goal

pub returns-clause-value : goal.returns-clause-value
returns-clause-value c = refl
