use Rattle.std.proofs.Common.{◌≡◌, sym, subst}
use Rattle.std.specs.Prelude.{IfSome}
use Rattle.nm_types.specs.Map.{get, spot_cmp}
use Rattle.nm_model.specs.views.Table.{Table}
use Rattle.nm_areas.proofs.Indexed.{put_index}
use Rattle.nm_areas.proofs.area_table.AreaTable.put.Goals as goal

pub invariant_of-self : goal.invariant_of-self
invariant_of-self g c =
    put_index c.self.inside.by_segment.keys c.self.inside.areas.entries c.put.new.areas.entries (c.args.pid, c.args.start) c.args.area c.self.invariant
    (subst (λ (x : Table). IfSome (get spot_cmp x.areas (c.args.pid, c.args.start)) (λ a. a.page.segment ≡ c.args.area.page.segment)) (sym c.self.view_is) c.requires.same) c.put.ensures.entries
