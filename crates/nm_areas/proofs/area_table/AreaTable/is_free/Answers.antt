use Rattle.std.proofs.Common.{◌≡◌, ◌≤◌, ◌+◌, ◌^◌, not, Bool, true, false, nat_eq, ap, sym, ◌∙◌, refl, arith}
use Rattle.std.specs.Prelude.{nat_le}
use Rattle.nm_types.specs.State.{PlacedArea}
use Rattle.nm_types.proofs.Cases.{true_false}
use Rattle.nm_model.specs.views.Table.{Table}
use Rattle.nm_model.specs.definitions.Areas.{EndsLow}
use Rattle.nm_model.proofs.areas.Overs.{free_other, free_own, free_none, last_has}
use Rattle.nm_areas.proofs.area_table.AreaTable.is_free.Goals as goal

false_from_not : (r b : Bool) → r ≡ not b → r ≡ true → b ≡ false
false_from_not r true e h = absurd (true_false (sym h ∙ e))
false_from_not r false e h = refl

true_from_not : (b : Bool) → false ≡ not b → b ≡ true
true_from_not true e = refl
true_from_not false e = absurd (true_false (sym e))

pub overflow_add-result : goal.overflow_add-result
overflow_add-result g c =
    let e : PlacedArea = (c.in-Some.field-0-0.now, c.in-Some.area.now) in
    let low : e.0.1 + e.1.pages ≤ 2 ^ 35 =
    last_has c.self.inside.areas c.args.self.now.areas (ap (λ (x : Table). x.areas) c.self.view_is) c.requires.apart c.requires.whole EndsLow c.args.pid c.args.range.now.end c.range.result c.next_back.new.self e
    (c.range.ensures.in_range tt) c.in-Some.ensures.steps c.requires.low in
    omega (arith, low, c.number.ensures)

pub returns-then-ne : goal.returns-then-ne
returns-then-ne g c =
    let e : PlacedArea = (c.in-Some.field-0-0.now, c.in-Some.area.now) in
    c.if-ne.true
    ∙ free_other c.self.inside.areas c.args.self.now.areas (ap (λ (x : Table). x.areas) c.self.view_is) c.requires.apart c.requires.whole c.args.pid c.args.range.now.first c.args.range.now.end c.args.range.now.end c.range.result c.next_back.new.self e
    (c.range.ensures.in_range tt) c.in-Some.ensures.steps refl (false_from_not c.ne.result (nat_eq e.0.0 c.args.pid) c.ne.ensures c.if-ne.true)

pub returns-else-ne : goal.returns-else-ne
returns-else-ne g c =
    let e : PlacedArea = (c.in-Some.field-0-0.now, c.in-Some.area.now) in
    ap (λ n. nat_le (n + e.1.pages) c.number-else-ne.result) c.number.ensures
    ∙ ap (nat_le (e.0.1 + e.1.pages)) c.number-else-ne.ensures
    ∙ free_own c.self.inside.areas c.args.self.now.areas (ap (λ (x : Table). x.areas) c.self.view_is) c.requires.apart c.requires.whole c.args.pid c.args.range.now.first c.args.range.now.end c.args.range.now.end c.range.result c.next_back.new.self e
    (c.range.ensures.in_range tt) c.in-Some.ensures.steps refl (true_from_not (nat_eq e.0.0 c.args.pid) c.if-ne.ensures)

pub returns-in-None : goal.returns-in-None
returns-in-None g c =
    free_none c.self.inside.areas c.args.self.now.areas (ap (λ (x : Table). x.areas) c.self.view_is) c.requires.apart c.requires.whole c.args.pid c.args.range.now.first c.args.range.now.end c.args.range.now.end c.range.result
    (c.range.ensures.in_range tt) c.in-None.ensures.steps.0 refl
