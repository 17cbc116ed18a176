use Rattle.std.proofs.Common.{ℕ, ap, ◌∙◌}
use Rattle.nm_types.specs.declared.page.Page.{Page}
use Rattle.nm_types.specs.Map.{Map}
use Rattle.nm_model.specs.definitions.Areas.{with_frame}
use Rattle.nm_model.specs.definitions.Areas.{Mapping, mapping_of}
use Rattle.nm_areas.proofs.areas.Areas.set_frame.Goals as goal

pub returns-clause-ok : goal.returns-clause-ok
returns-clause-ok g c =
    ap (λ (place : Map Page ℕ). mapping_of c.self.inside.table place) c.in_ok-insert.ensures.entries ∙ ap (λ (m : Mapping). with_frame m c.args.page c.args.frame) c.self.view_is
