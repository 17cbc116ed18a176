use Rattle.nm_spaces.proofs.ProcessTable.Places.{key_if_found}
use Rattle.nm_spaces.proofs.process_table.place_of.Goals as goal

pub returns-clause-key : goal.returns-clause-key
returns-clause-key g c = key_if_found c.args.tasks.now.entries c.args.pid c.get_index_of.result c.get_index_of.ensures.index
