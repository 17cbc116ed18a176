use Rattle.std.proofs.Common.{ap, sym, subst, ◌∙◌}
use Rattle.nm_types.specs.Map.{get, spot_cmp}
use Rattle.nm_model.specs.views.Table.{Table}
use Rattle.nm_areas.specs.Index.{IsIndex}
use Rattle.nm_areas.proofs.Indexed.{one_more, key_undone}
use Rattle.nm_areas.proofs.area_table.AreaTable.add.Goals as goal

pub invariant_of-self-in-Err : goal.invariant_of-self-in-Err
invariant_of-self-in-Err g c =
    let free = ap (λ (x : Table). get spot_cmp x.areas (c.args.pid, c.args.first)) c.self.view_is ∙ c.requires.free in
    subst (IsIndex c.remove.new.self.keys) (sym c.in-Err.ensures.err)
    (key_undone c.self.inside.by_segment.keys c.insert.new.self.keys c.remove.new.self.keys c.self.inside.areas.entries (c.args.area.page.segment, c.args.pid, c.args.first) c.self.invariant free
    c.in_ok-insert.ensures.updates.0 c.remove.ensures.updates.0)

pub invariant_of-self-in_default : goal.invariant_of-self-in_default
invariant_of-self-in_default g c =
    let free = ap (λ (x : Table). get spot_cmp x.areas (c.args.pid, c.args.first)) c.self.view_is ∙ c.requires.free in
    one_more c.self.inside.by_segment.keys c.insert.new.self.keys c.self.inside.areas.entries c.insert-2.new.self.entries (c.args.pid, c.args.first) c.args.area c.self.invariant free
    c.in_ok-insert.ensures.updates.0 c.in_default.ensures.updates.0
