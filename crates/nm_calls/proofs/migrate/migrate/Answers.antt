use Rattle.std.proofs.Common.{◌≡◌, arith, ◌<◌, ap, subst, ◌∙◌}
use Rattle.std.specs.Result.{IsErrAnd}
use Rattle.nm_types.specs.Layout.{node_count}
use Rattle.nm_policy.specs.definitions.Pairs.{pairs}
use Rattle.nm_runs.specs.Stretches.{stretches_of}
use Rattle.nm_model.specs.definitions.Cut.{cut_within}
use Rattle.nm_passes.specs.definitions.Listing.{migrate_list}
use Rattle.nm_requests.specs.Views.{shown_during}
use Rattle.nm_passes.proofs.Batches.Results.{none_moved, batch_moved}
use Rattle.nm_passes.proofs.Batches.Requests.{run_targets, run_entries, run_kinds}
use Rattle.nm_calls.proofs.PageLists.Pairs.{asked_targets, asked_alike}
use Rattle.nm_calls.proofs.migrate.migrate.Given.{Over}
use Rattle.nm_calls.proofs.migrate.migrate.Goals.{After-as_slice-3}
use Rattle.nm_calls.proofs.migrate.migrate.Goals as goal

-- the runs are those of the pages that are asked for
its_runs : (g : Over) (c : After-as_slice-3 g)
    → let what = c.args.what in stretches_of c.as_slice-3.result.now ≡ cut_within c.args.limit (migrate_list c.args.machine.now what.pid what.all (pairs c.args.old what.targets))
its_runs g c =
    let what = c.args.what in
    let list = c.in_ok-requests.ensures.list ∙ ap (migrate_list c.args.machine.now what.pid what.all) (c.as_slice.ensures.value ∙ c.in_ok-pairs.ensures.value) in
    ap stretches_of c.as_slice-3.ensures.value ∙ c.in_ok-runs.ensures.runs ∙ ap (cut_within c.args.limit) (c.as_slice-2.ensures.value ∙ list)

pub move_runs-requires-clause-targets : goal.move_runs-requires-clause-targets
move_runs-requires-clause-targets g c κs within =
    let s = c.args.machine.now in
    let what = c.args.what in
    let ps = pairs c.args.old what.targets in
    let runs = its_runs g (goal.at.move_runs-requires-clause-targets g c).After-as_slice-3 in
    run_targets (node_count s.layout) c.args.limit (migrate_list s what.pid what.all ps) c.as_slice-3.result.now c.requires.some runs
    (asked_targets (λ n. n < node_count s.layout) s what.pid what.all what.targets ps c.requires.nodes c.in_ok-pairs.ensures.order.inside)

pub move_runs-requires-clause-alike : goal.move_runs-requires-clause-alike
move_runs-requires-clause-alike g c κs within =
    let what = c.args.what in
    let runs = its_runs g (goal.at.move_runs-requires-clause-alike g c).After-as_slice-3 in
    run_kinds c.args.limit what.all (migrate_list c.args.machine.now what.pid what.all (pairs c.args.old what.targets)) c.as_slice-3.result.now c.requires.some runs (asked_alike c.args.machine.now what.pid what.all (pairs c.args.old what.targets))

pub move_runs-requires-clause-room : goal.move_runs-requires-clause-room
move_runs-requires-clause-room g c κs within =
    let runs = ap stretches_of c.as_slice-3.ensures.value ∙ c.in_ok-runs.ensures.runs ∙ ap (cut_within c.args.limit) c.as_slice-2.ensures.value in
    let fit = run_entries c.args.limit c.in_ok-requests.requests.items c.as_slice-3.result.now c.requires.some runs in
    omega (arith, fit, c.in_ok-statuses.ensures.capacity)

pub returns-in_err-pairs : goal.returns-in_err-pairs
returns-in_err-pairs g c = none_moved _ _ _ _ _ c.from_residual.ensures.1

pub returns-in_err-requests : goal.returns-in_err-requests
returns-in_err-requests g c =
    let r = c.from_residual-in_err-requests.result in
    none_moved _ _ _ _ _ (subst (λ e. IsErrAnd r (λ x. x ≡ e)) c.in_err-requests.ensures.err c.from_residual-in_err-requests.ensures.1)

pub returns-in_err-runs : goal.returns-in_err-runs
returns-in_err-runs g c = none_moved _ _ _ _ _ c.from_residual-in_err-runs.ensures.1

pub returns-in_err-statuses : goal.returns-in_err-statuses
returns-in_err-statuses g c = none_moved _ _ _ _ _ c.from_residual-in_err-statuses.ensures.1

pub returns : goal.returns
returns g c =
    let runs = its_runs g (goal.at.returns g c).After-as_slice-3 in
    batch_moved c.move_runs.result _ _ _ _ _ _ _ runs (ap shown_during c.as_slice-4.ensures) c.move_runs.ensures.moves
