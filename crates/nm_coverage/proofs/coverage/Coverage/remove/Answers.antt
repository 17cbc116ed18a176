use Rattle.std.proofs.Common.{ap, refl, ◌∙◌}
use Rattle.std.specs.Prelude.{None, if◌then◌else◌}
use Rattle.nm_types.specs.Map.{get, page_cmp, same_page}
use Rattle.nm_coverage.proofs.Seen.{taken_seen}
use Rattle.nm_coverage.proofs.coverage.Coverage.remove.Goals as goal

pub returns-then-is_some : goal.returns-then-is_some
returns-then-is_some g c p =
    taken_seen c.self.inside.stored.entries c.remove.new.self.entries c.self.inside.parts.entries c.uncount_step.new.parts.entries c.args.page c.uncount_step.ensures c.remove.ensures.updates.0 p
    ∙ ap (λ m. if same_page c.args.page p then None else get page_cmp m p) c.self.view_is

pub returns-else-is_some : goal.returns-else-is_some
returns-else-is_some g c p =
    taken_seen c.self.inside.stored.entries c.remove.new.self.entries c.self.inside.parts.entries c.self.inside.parts.entries c.args.page (λ q some. refl) c.remove.ensures.updates.0 p
    ∙ ap (λ m. if same_page c.args.page p then None else get page_cmp m p) c.self.view_is
