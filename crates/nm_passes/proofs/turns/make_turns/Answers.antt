use Rattle.std.proofs.Common.{◌<◌, arith, ap, ◌∙◌}
use Rattle.std.proofs.lemmas.Result.{on_err_weaker}
use Rattle.nm_types.specs.Layout.{node_count}
use Rattle.nm_runs.specs.Stretches.{stretches_of}
use Rattle.nm_passes.specs.definitions.Placement.{each_to}
use Rattle.nm_passes.proofs.Batches.Results.{none_batched, batch_given}
use Rattle.nm_passes.proofs.Batches.Requests.{run_targets, run_entries, runs_like, some_runs}
use Rattle.nm_passes.proofs.Policies.Moves.{asked_all, turns_alike}
use Rattle.nm_passes.proofs.Policies.SentPages.{sent_length}
use Rattle.nm_passes.proofs.turns.make_turns.Goals as goal

pub make_runs-requires-clause-targets : goal.make_runs-requires-clause-targets
make_runs-requires-clause-targets g c κs within =
    let x = c.args in
    let n = node_count x.machine.now.layout in
    let runs = ap stretches_of c.as_slice.ensures.value ∙ c.in_ok-runs.ensures.runs in
    run_targets n x.limit (each_to x.pid x.all x.sent.now) c.as_slice.result.now c.requires.some runs (asked_all (λ m. m < n) x.pid x.all x.sent.now c.requires.nodes)

pub make_runs-requires-clause-alike : goal.make_runs-requires-clause-alike
make_runs-requires-clause-alike g c κs within =
    let x = c.args in
    let runs = ap stretches_of c.as_slice.ensures.value ∙ c.in_ok-runs.ensures.runs in
    runs_like x.limit (each_to x.pid x.all x.sent.now) c.as_slice.result.now c.requires.some runs (turns_alike x.pid x.all x.sent.now)

pub make_runs-requires-clause-count : goal.make_runs-requires-clause-count
make_runs-requires-clause-count g c κs within =
    let x = c.args in
    let runs = ap stretches_of c.as_slice.ensures.value ∙ c.in_ok-runs.ensures.runs in
    run_entries x.limit (each_to x.pid x.all x.sent.now) c.as_slice.result.now c.requires.some runs ∙ sent_length x.pid x.all x.sent.now

pub returns-in_err-runs-clause-made : goal.returns-in_err-runs-clause-made
returns-in_err-runs-clause-made g c = none_batched _ _ _ _ _ c.from_residual.ensures.1

pub returns-clause-made : goal.returns-clause-made
returns-clause-made g c =
    let runs = ap stretches_of c.as_slice.ensures.value ∙ c.in_ok-runs.ensures.runs in
    batch_given c.make_runs.result _ _ _ _ _ _ runs c.make_runs.ensures.made

pub returns-clause-allocates : goal.returns-clause-allocates
returns-clause-allocates g c =
    let x = c.args in
    let len = sent_length x.pid x.all x.sent.now in
    let runs = ap stretches_of c.as_slice.ensures.value ∙ c.in_ok-runs.ensures.runs in
    on_err_weaker c.make_runs.result (λ some. omega (arith, len, some_runs x.limit (each_to x.pid x.all x.sent.now) c.as_slice.result.now c.requires.some runs some)) c.make_runs.ensures.allocates
