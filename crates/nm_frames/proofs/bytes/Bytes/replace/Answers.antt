use Rattle.std.proofs.Common.{sym}
use Rattle.nm_frames.proofs.Zeros.{around}
use Rattle.nm_frames.proofs.bytes.Bytes.replace.Goals as goal

pub returns : goal.returns
returns g c =
    let both = c.common-both.ensures in
    let all = around c.self.inside.bytes.value c.args.bytes.now c.common-both.result both.fits (λ i is_in. c.self.invariant.2 i (both.both i is_in).0)
    (λ i is_in. c.requires.zeros i (both.both i is_in).1) c.self.invariant.0 c.told-bytes in
    rw (c.self-2.view_is, c.write-2.ensures, c.write.ensures, c.from-end.ensures, c.from.ensures, sym c.self.view_is) all

pub invariant_of-self : goal.invariant_of-self
invariant_of-self g c = rw (returns g c) (c.told-bytes, c.requires.fits, c.requires.zeros)
