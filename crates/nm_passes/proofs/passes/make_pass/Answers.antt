use Rattle.std.proofs.Common.{arith, ap, sym, subst, ◌∙◌, length, []}
use Rattle.std.proofs.lemmas.List.{length-map}
use Rattle.nm_types.specs.Layout.{node_count}
use Rattle.nm_model.specs.definitions.Cut.{Stretch, all_to}
use Rattle.nm_model.specs.definitions.Run.{HasOneAll, RunResult}
use Rattle.nm_model.specs.definitions.Run.{runs_from}
use Rattle.nm_runs.specs.Stretches.{stretches_of}
use Rattle.nm_passes.specs.definitions.Passes.{short_of_frames}
use Rattle.nm_passes.proofs.Batches.Requests.{run_targets, run_entries, runs_like}
use Rattle.nm_passes.proofs.Batches.Results.{none_batched, batch_stopped}
use Rattle.nm_passes.proofs.NodesInTurn.Passes.{to_node_below, to_node_wanted, to_node_length, batch_statuses}
use Rattle.nm_passes.proofs.passes.make_pass.Goals as goal

pub make_runs-requires-clause-targets : goal.make_runs-requires-clause-targets
make_runs-requires-clause-targets g c κs within =
    let x = c.args in
    let n = node_count x.machine.now.layout in
    let runs = ap stretches_of c.as_slice.ensures.value ∙ c.in_ok-runs.ensures.runs in
    run_targets n x.limit (all_to x.node x.wanted.now) c.as_slice.result.now c.requires.some runs (to_node_below n x.node x.wanted.now c.requires.node)

pub make_runs-requires-clause-alike : goal.make_runs-requires-clause-alike
make_runs-requires-clause-alike g c κs within =
    let x = c.args in
    let runs = ap stretches_of c.as_slice.ensures.value ∙ c.in_ok-runs.ensures.runs in
    runs_like x.limit (all_to x.node x.wanted.now) c.as_slice.result.now c.requires.some runs (subst HasOneAll (sym (to_node_wanted x.node x.wanted.now)) c.requires.alike)

pub make_runs-requires-clause-count : goal.make_runs-requires-clause-count
make_runs-requires-clause-count g c κs within =
    let x = c.args in
    let runs = ap stretches_of c.as_slice.ensures.value ∙ c.in_ok-runs.ensures.runs in
    run_entries x.limit (all_to x.node x.wanted.now) c.as_slice.result.now c.requires.some runs ∙ to_node_length x.node x.wanted.now

pub put_without_frame-requires-clause-paired : goal.put_without_frame-requires-clause-paired
put_without_frame-requires-clause-paired g c =
    let x = c.args in
    let runs = ap stretches_of c.as_slice.ensures.value ∙ c.in_ok-runs.ensures.runs in
    let made = ap (λ rs. length (runs_from 0 x.machine.now rs []).statuses) runs in
    sym (ap length (c.as_slice-2.ensures.value ∙ c.in_ok-statuses.ensures.made.1) ∙ made ∙ batch_statuses x.limit x.machine.now (all_to x.node x.wanted.now) c.requires.some ∙ to_node_length x.node x.wanted.now)

pub returns-in_err-runs : goal.returns-in_err-runs
returns-in_err-runs g c = none_batched _ _ _ _ _ c.from_residual.ensures.1

pub returns-in_err-left : goal.returns-in_err-left
returns-in_err-left g c = none_batched _ _ _ _ _ c.from_residual-in_err-left.ensures.1

pub returns-in_err-statuses : goal.returns-in_err-statuses
returns-in_err-statuses g c =
    let runs = ap stretches_of c.as_slice.ensures.value ∙ c.in_ok-runs.ensures.runs in
    batch_stopped c.make_runs.result _ _ _ _ _ _ _ _ _ c.in_err-statuses.was c.from_residual-in_err-statuses.ensures.1 runs c.make_runs.ensures.made

pub returns : goal.returns
returns g c =
    let runs = ap stretches_of c.as_slice.ensures.value ∙ c.in_ok-runs.ensures.runs in
    let same = ap (λ rs. runs_from 0 c.args.machine.now rs []) runs in
    let made = c.in_ok-statuses.ensures.made in
    let same_count = length-map {B = Stretch} c.in_ok-runs.runs.items (λ run. record { target = run.target; wanted = run.wanted.items }) in (
      made.0 ∙ ap (λ (ran : RunResult). ran.state) same,
      (
        omega (arith, c.len.ensures, c.in_ok-runs.runs.ok.0, same_count, ap length c.in_ok-runs.ensures.runs),
        c.put_without_frame.ensures ∙ ap (short_of_frames c.args.wanted.now) (c.as_slice-2.ensures.value ∙ made.1 ∙ ap (λ (ran : RunResult). ran.statuses) same),
      ),
    )
