use Rattle.std.proofs.Common.{◌+◌}
use Rattle.nm_areas.specs.Coverage.{of_shared, ends_at, covers_at, splits_at}
use Rattle.nm_areas.proofs.counting.join_steps.Goals as goal

pub returns : goal.returns
returns g c =
    let areas = c.args.table.now.areas in
    let segments = c.args.table.now.segments in
    c.join_step-2.ensures (of_shared segments (ends_at areas)) (of_shared segments (covers_at areas)) (c.join_step.ensures (λ p. of_shared segments (ends_at areas) p + of_shared segments (splits_at areas c.args.pid c.args.first) p) (of_shared segments (covers_at areas)) c.requires.steps)
