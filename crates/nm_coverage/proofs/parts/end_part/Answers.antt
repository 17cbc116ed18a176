use Rattle.nm_coverage.proofs.Ended.{ended}
use Rattle.nm_coverage.proofs.parts.end_part.Goals as goal

pub returns-then-is_empty : goal.returns-then-is_empty
returns-then-is_empty g c p some =
    ended c.args.parts.now.entries c.remove.new.self.entries c.args.start p c.requires.ordered c.remove.ensures.entries (c.is_empty.ensures c.if-is_empty.true p some)
