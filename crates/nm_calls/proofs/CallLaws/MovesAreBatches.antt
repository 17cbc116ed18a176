-- A call that moves pages is one batch.
use Rattle.nm_model.specs.definitions.Run.{batch}
use Rattle.nm_requests.specs.Calls.{MovePages, MigratePages}
use Rattle.nm_calls.specs.definitions.Outcome.{start, runs_asked, accesses_asked, end_of_call}
use Rattle.nm_calls.specs.laws.Calls.{MovePagesIsABatch, MigrationIsABatch}
use Rattle.nm_calls.proofs.Outcomes.{answers}
use Rattle.std.proofs.Common.{refl}

pub move_pages_is_a_batch : MovePagesIsABatch
unfolding start runs_asked accesses_asked end_of_call
move_pages_is_a_batch y caller pid pages nodes flags during none =
    answers y (MovePages caller pid pages nodes flags during) _ none refl

pub migration_is_a_batch : MigrationIsABatch
unfolding start runs_asked accesses_asked end_of_call
migration_is_a_batch y caller pid old new none = answers y (MigratePages caller pid old new) _ none refl
