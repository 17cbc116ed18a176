use Rattle.std.proofs.Common.{◌%◌}
use Rattle.std.proofs.Math.Pow.{pow_pos}
use Rattle.nm_tables.proofs.Words.{rest_marked}
use Rattle.nm_tables.proofs.marks.Marks.rest_of_word.Goals as goal

pub returns : goal.returns
returns c j fits = rest_marked c.args.self.now.words c.args.place j (pow_pos (c.args.place % 64)) fits
