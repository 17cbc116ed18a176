use Rattle.std.proofs.Common.{refl}
use Rattle.nm_types.proofs.laws.flags_have_their_bits.Goals as goal

pub returns-clause-moves : goal.returns-clause-moves
returns-clause-moves c = refl

pub returns-clause-moves_all : goal.returns-clause-moves_all
returns-clause-moves_all c = refl
