use Rattle.std.proofs.Common.{ap, ◌∙◌}
use Rattle.std.specs.Prelude.{if◌then◌else◌}
use Rattle.std.specs.Option.{option_map}
use Rattle.nm_types.specs.Map.{get, page_cmp, same_page}
use Rattle.nm_coverage.proofs.Seen.{replaced_seen}
use Rattle.nm_coverage.proofs.coverage.Coverage.replace.Goals as goal

pub returns : goal.returns
returns g c p =
    replaced_seen c.self.inside.stored.entries c.put.new.stored.entries c.self.inside.parts.entries c.args.page c.args.step _ c.add_at-add.result c.add_at-add.ensures c.minus-covers.ensures c.put.ensures p
    ∙ ap (λ m. option_map (λ there. if same_page c.args.page p then c.args.step else there) (get page_cmp m p)) c.self.view_is
