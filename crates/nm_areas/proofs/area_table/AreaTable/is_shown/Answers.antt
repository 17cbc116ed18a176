use Rattle.std.proofs.Common.{List, subst, sym, ap, ◌∙◌}
use Rattle.std.specs.BTreeSet.{IsKeyRangeOf}
use Rattle.std.specs.declared.ops.Bound.TheVariants.{Included, Unbounded}
use Rattle.std.specs.List.{list_any}
use Rattle.std.specs.List.Sorted.{IsStrictlySortedBy}
use Rattle.std.specs.Map.{keys_of}
use Rattle.nm_types.specs.Map.{spot_cmp}
use Rattle.nm_areas.specs.Index.{Key, key_cmp}
use Rattle.nm_model.specs.definitions.Areas.{shows_segment}
use Rattle.nm_model.specs.views.Table.{Table}
use Rattle.nm_areas.proofs.Scanned.{shown_first, shown_none}
use Rattle.nm_areas.proofs.area_table.AreaTable.is_shown.Goals as goal

pub returns-in-Some : goal.returns-in-Some
returns-in-Some g c =
    let n = c.args.segment in
    let ordered = subst (λ (t : Table). IsStrictlySortedBy spot_cmp (keys_of t.areas)) (sym c.self.view_is) c.requires.ordered in
    let here = subst (λ (r : List Key). IsKeyRangeOf key_cmp (Included (n, c.new.result, c.new-2.result)) Unbounded c.self.inside.by_segment r) c.in-Some.ensures.steps (c.range.ensures.in_range tt) in
    shown_first n c.new.result c.new-2.result c.self.inside.by_segment.keys c.range.result c.self.inside.areas.entries c.self.invariant ordered c.range.ensures.ordered c.new.ensures c.new-2.ensures (c.range.ensures.between tt)
    c.in-Some.field-0.now _ c.in-Some.ensures.steps here.1.1
    ∙ ap (λ (t : Table). list_any (shows_segment n) t.areas) c.self.view_is

pub returns-in-None : goal.returns-in-None
returns-in-None g c =
    let n = c.args.segment in
    let ordered = subst (λ (t : Table). IsStrictlySortedBy spot_cmp (keys_of t.areas)) (sym c.self.view_is) c.requires.ordered in
    shown_none n c.new.result c.new-2.result c.self.inside.by_segment.keys c.range.result c.self.inside.areas.entries c.self.invariant ordered c.range.ensures.ordered c.new.ensures c.new-2.ensures (c.range.ensures.between tt)
    c.in-None.ensures.steps.0
    ∙ ap (λ (t : Table). list_any (shows_segment n) t.areas) c.self.view_is
