use Rattle.nm_frames.proofs.job.CopyJob.size.Goals as goal

pub returns : goal.returns
returns g c =
    let both = c.common.ensures in
    (c.common.result, both.fits, λ i is_in. c.gap.ensures.zeros i (both.both i is_in).0, λ i is_in. c.gap-2.ensures.zeros i (both.both i is_in).1, c.outside.ensures)
