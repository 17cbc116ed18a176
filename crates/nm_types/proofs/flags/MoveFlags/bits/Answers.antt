use Rattle.std.proofs.Common.{arith}
use Rattle.nm_types.proofs.flags.MoveFlags.bits.Goals as goal

pub returns : goal.returns
returns c = omega arith
