use Rattle.nm_areas.specs.Coverage.{IsWith, of_shared, ends_at, covers_at}
use Rattle.std.proofs.Common.{subst}
use Rattle.nm_areas.proofs.counting.count_out.Goals as goal

pub returns-then-shared : goal.returns-then-shared
returns-then-shared g c segments areas h =
    c.uncover.ensures (of_shared segments (ends_at areas)) (of_shared segments (covers_at areas)) (subst (IsWith c.args.steps.now segments areas c.args.area) c.if-shared.true h)
