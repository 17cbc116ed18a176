use Rattle.nm_tables.proofs.Slots.{slot-found}
use Rattle.nm_tables.proofs.blocks.Blocks.block_from.Goals as goal

pub returns-clause-slot : goal.returns-clause-slot
returns-clause-slot g c =
    let b = c.args.self.now in
    slot-found b.leaves.items b.index c.requires.0 c.args.from c.first_from.result c.first_from.ensures.some
