use Rattle.std.proofs.Common.{sym}
use Rattle.nm_coverage.proofs.Seen.{view_some, view_none}
use Rattle.nm_coverage.proofs.coverage.Coverage.get.Goals as goal

pub returns-in-Some : goal.returns-in-Some
returns-in-Some g c = sym (view_some c.self.inside.stored.entries c.self.inside.parts.entries c.args.self.now c.self.view_is c.args.page _ _ _ c.add_at.ensures c.with_add.ensures c.in-Some.ensures.value)

pub returns-in-None : goal.returns-in-None
returns-in-None g c = sym (view_none c.self.inside.stored.entries c.self.inside.parts.entries c.args.self.now c.self.view_is c.args.page (sym c.in-None.ensures.value))
