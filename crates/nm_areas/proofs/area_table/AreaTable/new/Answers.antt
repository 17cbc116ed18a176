use Rattle.std.proofs.Common.{ℕ, [], ap, ◌∙◌}
use Rattle.nm_types.specs.declared.area.Area.{Area}
use Rattle.nm_types.specs.declared.area.Segment.{Segment}
use Rattle.nm_types.specs.Map.{Map}
use Rattle.nm_model.specs.views.Table.{Table}
use Rattle.nm_areas.proofs.area_table.AreaTable.new.Goals as goal

abbrev first_table : Map (ℕ × ℕ) Area → Map ℕ Segment → Table
first_table areas segments = record { areas = areas; segments = segments; next = 0 }

pub returns : goal.returns
returns g c = ap (λ (areas : Map (ℕ × ℕ) Area). first_table areas c.new-3.result.entries) c.new.ensures.empty ∙ ap (λ (segments : Map ℕ Segment). first_table [] segments) c.new-3.ensures.empty
