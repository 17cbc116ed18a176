use Rattle.nm_calls.proofs.CallLaws.MovesAreBatches.{move_pages_is_a_batch, migration_is_a_batch}
use Rattle.nm_calls.proofs.laws.moves_are_batches.Goals as goal

pub returns-clause-pages : goal.returns-clause-pages
returns-clause-pages c = move_pages_is_a_batch

pub returns-clause-migrations : goal.returns-clause-migrations
returns-clause-migrations c = migration_is_a_batch
