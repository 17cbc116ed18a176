use Rattle.std.proofs.Common.{arith, ap, length, refl}
use Rattle.nm_requests.specs.Views.{shown_during}
use Rattle.nm_passes.proofs.Batches.Results.{none_given, runs_stopped, ran_without, on_err, takes_some}
use Rattle.nm_passes.proofs.Batches.Requests.{entries_some}
use Rattle.nm_passes.proofs.passes.make_runs.Goals as goal

pub move_runs-requires-clause-room : goal.move_runs-requires-clause-room
move_runs-requires-clause-room g c κs within = omega (arith, c.requires.count, c.in_ok-statuses.ensures.capacity)

pub returns-in_err-statuses-clause-made : goal.returns-in_err-statuses-clause-made
returns-in_err-statuses-clause-made g c = none_given _ _ _ _ c.from_residual.ensures.1

pub returns-in_err-moved-clause-made : goal.returns-in_err-moved-clause-made
returns-in_err-moved-clause-made g c =
    runs_stopped c.move_runs.result _ _ _ _ _ _ _ _ c.in_err-moved.was c.from_residual-in_err-moved.ensures.1 refl (ap shown_during c.as_slice.ensures) c.move_runs.ensures.moves

pub returns-clause-made : goal.returns-clause-made
returns-clause-made g c = ran_without c.in_ok-moved.moved _ _ _ _ _ refl (ap shown_during c.as_slice.ensures) c.in_ok-moved.ensures.moves

pub returns-in_err-statuses-clause-allocates : goal.returns-in_err-statuses-clause-allocates
returns-in_err-statuses-clause-allocates g c = on_err c.from_residual.result (entries_some c.args.runs.now _ c.requires.count (takes_some _ c.in_err-statuses.ensures.succeeds))

pub returns-in_err-moved-clause-allocates : goal.returns-in_err-moved-clause-allocates
returns-in_err-moved-clause-allocates g c =
    let none = ap length c.as_slice.ensures in
    on_err c.from_residual-in_err-moved.result (omega (arith, c.in_err-moved.ensures.allocates, none))
