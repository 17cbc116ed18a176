use Rattle.std.proofs.Common.{refl}
use Rattle.nm_types.proofs.numbers.vpns.Vpn.new.Goals as goal

pub returns : goal.returns
returns c = refl
