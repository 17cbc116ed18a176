use Rattle.std.proofs.Common.{arith, subst, sym}
use Rattle.nm_areas.specs.Coverage.{IsWith, of_shared, ends_at, covers_at}
use Rattle.nm_areas.proofs.Counted.{err_always}
use Rattle.nm_areas.proofs.Masked.{shared_flat, shared_few}
use Rattle.nm_areas.proofs.counting.count_in.Goals as goal

pub returns-in_err-cover-clause-err : goal.returns-in_err-cover-clause-err
returns-in_err-cover-clause-err g c =
    let areas = c.args.table.now.areas in
    let segments = c.args.table.now.segments in
    let few = shared_few segments areas c.requires.whole in
    err_always c.from_residual.result (c.in_err-cover.ensures.err (of_shared segments (ends_at areas)) (of_shared segments (covers_at areas)) c.requires.steps (shared_flat segments areas)
    (λ p. let small = few p in (omega (arith, small.0, c.count-areas.ensures.few), omega (arith, small.1, c.count-areas.ensures.few))))

pub returns-clause-ok : goal.returns-clause-ok
returns-clause-ok g c =
    let areas = c.args.table.now.areas in
    let segments = c.args.table.now.segments in
    let few = shared_few segments areas c.requires.whole in
    subst (IsWith c.cover.new.steps segments areas c.args.area) (sym c.if-not-shared.false)
    (c.in_ok-cover.ensures.ok (of_shared segments (ends_at areas)) (of_shared segments (covers_at areas)) c.requires.steps (shared_flat segments areas)
    (λ p. let small = few p in (omega (arith, small.0, c.count-areas.ensures.few), omega (arith, small.1, c.count-areas.ensures.few))))

pub returns-in_err-cover-clause-allocates : goal.returns-in_err-cover-clause-allocates
returns-in_err-cover-clause-allocates g c = err_always c.from_residual.result c.if-not-shared.false
