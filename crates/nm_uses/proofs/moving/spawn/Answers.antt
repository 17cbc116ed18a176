use Rattle.std.proofs.Common.{rules}
use Rattle.nm_uses.proofs.Unrefused.{spawn_memory}
use Rattle.nm_uses.proofs.moving.spawn.Goals as goal

pub returns-clause-memory : goal.returns-clause-memory
returns-clause-memory c = spawn_memory _ c.spawn.result c.args.system.now _ _ c.spawn.ensures c.requires (search rules)
