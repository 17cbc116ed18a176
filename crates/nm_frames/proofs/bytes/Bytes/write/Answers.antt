use Rattle.std.proofs.Common.{sym, arith}
use Rattle.std.proofs.lemmas.Grind.{common_steps}
use Rattle.nm_frames.proofs.Zeros.{still_zero}
use Rattle.nm_frames.proofs.bytes.Bytes.write.Goals as goal

pub returns : goal.returns
returns g c = grind (arith, common_steps)

pub invariant_of-self : goal.invariant_of-self
invariant_of-self g c =
    let rest = still_zero c.args.self.now c.args.bytes.now c.args.at c.self.inside.gap _ (rw (sym c.self.view_is) c.self.invariant.0) c.requires
    (rw (sym c.self.view_is) c.self.invariant.2) c.without-self-inside.ensures.left in
    rw (returns g c) (rest.0, c.without-self-inside.ensures.fits, rest.1)
