use Rattle.std.proofs.Common.{ℕ, ap, ◌∙◌}
use Rattle.nm_types.specs.declared.page.Page.{Page}
use Rattle.nm_types.specs.Map.{Map}
use Rattle.nm_model.specs.definitions.Areas.{without_frame}
use Rattle.nm_model.specs.definitions.Areas.{Mapping, mapping_of}
use Rattle.nm_areas.proofs.areas.Areas.drop_frame.Goals as goal

pub returns : goal.returns
returns g c =
    ap (λ (place : Map Page ℕ). mapping_of c.self.inside.table place) c.remove.ensures.entries ∙ ap (λ (m : Mapping). without_frame m c.args.page) c.self.view_is
