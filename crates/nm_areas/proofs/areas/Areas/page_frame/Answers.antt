use Rattle.std.proofs.Common.{ap, ◌∙◌}
use Rattle.nm_types.specs.Map.{get, page_cmp}
use Rattle.nm_model.specs.definitions.Areas.{Mapping}
use Rattle.nm_areas.proofs.areas.Areas.page_frame.Goals as goal

pub returns : goal.returns
returns g c = c.copied.ensures ∙ c.get.ensures.value ∙ ap (λ (m : Mapping). get page_cmp m.place c.args.page) c.self.view_is
