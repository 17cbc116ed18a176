use Rattle.std.proofs.Common.{[], ◌+◌, ◌/◌}
use Rattle.nm_model.specs.definitions.Effect.{page_count}
use Rattle.nm_laws.proofs.OneByOne.Memory.{each_keeps, frees_keep, batch_keeps}
use Rattle.nm_laws.proofs.Seen.Rewritten.{run_writes, runs_write}
use Rattle.nm_laws.proofs.Soundness.Touched.{reading_keeps}
use Rattle.nm_laws.proofs.Soundness.Policed.{policy_shows, policy_keeps}
use Rattle.nm_laws.proofs.laws.mem_stays.Goals as goal

pub returns-clause-deciding : goal.returns-clause-deciding
returns-clause-deciding c = each_keeps

pub returns-clause-freeing : goal.returns-clause-freeing
returns-clause-freeing c = λ s frames. frees_keep frames s

pub returns-clause-batches : goal.returns-clause-batches
returns-clause-batches c = batch_keeps

pub returns-clause-runs : goal.returns-clause-runs
returns-clause-runs c = run_writes

pub returns-clause-run : goal.returns-clause-run
returns-clause-run c = runs_write

pub returns-clause-reading : goal.returns-clause-reading
returns-clause-reading c = λ s left pid address len q at h. reading_keeps s left pid address len h q at

pub returns-clause-policies : goal.returns-clause-policies
returns-clause-policies c = λ s pid address len policy q v at h.
    let first = address / 4096 in
    let end = first + page_count len in
    (policy_shows s [] pid first end policy q v h, policy_keeps s [] pid first end policy q at h)
