use Rattle.std.proofs.Common.{◌+◌, arith, inl, inr, sym, subst}
use Rattle.nm_areas.specs.Coverage.{IsSteps, of_shared, ends_at, covers_at, splits_at}
use Rattle.nm_areas.proofs.Counted.{err_always, splits_few}
use Rattle.nm_areas.proofs.Masked.{masked_few, shared_flat, shared_few}
use Rattle.nm_areas.proofs.Steps.{flat_more}
use Rattle.nm_areas.proofs.counting.split_steps.Goals as goal

pub returns-in_default-clause-err : goal.returns-in_default-clause-err
returns-in_default-clause-err g c =
    let a = c.args in
    let areas = a.table.now.areas in
    let segments = a.table.now.segments in
    let ends = of_shared segments (ends_at areas) in
    let covers = of_shared segments (covers_at areas) in
    let first = c.in_ok-split_step.ensures.ok ends covers c.requires.steps (shared_flat segments areas) (λ p. let small = (shared_few segments areas c.requires.whole p).0 in omega (arith, small, c.count-areas.ensures.few)) in
    c.join_step.ensures ends covers (subst (λ m. IsSteps m (λ p. ends p + of_shared segments (splits_at areas a.pid a.first) p) covers) (sym c.in_default.ensures.err) first)

pub returns-clause-ok : goal.returns-clause-ok
returns-clause-ok g c =
    let a = c.args in
    let areas = a.table.now.areas in
    let segments = a.table.now.segments in
    let ends = of_shared segments (ends_at areas) in
    let covers = of_shared segments (covers_at areas) in
    let more = of_shared segments (splits_at areas a.pid a.first) in
    let first = c.in_ok-split_step.ensures.ok ends covers c.requires.steps (shared_flat segments areas) (λ p. let small = (shared_few segments areas c.requires.whole p).0 in omega (arith, small, c.count-areas.ensures.few)) in
    c.in-Ok.ensures.ok (λ p. ends p + more p) covers first (flat_more ends covers more (shared_flat segments areas))
    (λ p.
    let small = (shared_few segments areas c.requires.whole p).0 in
    let two = splits_few areas c.requires.apart a.pid a.first p in
    let fewer = masked_few segments (splits_at areas a.pid a.first) p in
    omega (arith, small, two, fewer, c.count-areas.ensures.few))

pub returns-in_err-split_step-clause-allocates : goal.returns-in_err-split_step-clause-allocates
returns-in_err-split_step-clause-allocates g c = err_always c.from_residual.result (inl c.in_err-split_step.ensures.allocates)

pub returns-in_default-clause-allocates : goal.returns-in_default-clause-allocates
returns-in_default-clause-allocates g c = inr c.in_default.ensures.allocates
