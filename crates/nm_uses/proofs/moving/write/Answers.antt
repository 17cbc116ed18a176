use Rattle.std.proofs.Common.{rules}
use Rattle.nm_uses.proofs.Unrefused.{write_memory}
use Rattle.nm_uses.proofs.moving.write.Goals as goal

pub returns-clause-memory : goal.returns-clause-memory
returns-clause-memory c = write_memory _ c.write.result c.args.system.now _ _ c.write.ensures.done c.requires (search rules)
