use Rattle.std.proofs.Common.{◌≡◌, option_map, true, nat_eq, ap, sym, ◌∙◌, arith, eq-eqb}
use Rattle.nm_types.specs.State.{PlacedArea}
use Rattle.nm_types.proofs.Cases.{true_false}
use Rattle.nm_model.specs.views.Table.{Table}
use Rattle.nm_model.proofs.areas.Apart.{covers_parts}
use Rattle.nm_model.proofs.areas.Overs.{over_it, over_not, over_none}
use Rattle.nm_areas.proofs.area_table.AreaTable.over.Goals as goal
use Rattle.nm_areas.proofs.area_table.AreaTable.over.Goals.{else-eq-via-then-eq+else-within-area, else-eq-via-else-eq}

pub returns-in_err-owner : goal.returns-in_err-owner
returns-in_err-owner g c =
    ap (option_map {U = PlacedArea} (λ found. ((c.args.pid, found.0), found.1))) c.from_residual.ensures
    ∙ sym (over_none c.self.inside.areas c.args.self.now.areas (ap (λ (x : Table). x.areas) c.self.view_is) c.requires.apart c.requires.whole c.args.pid c.args.vpn c.range.result (c.range.ensures.in_range tt) c.in_err-owner.ensures.steps.0)

pub returns-in_err-within : goal.returns-in_err-within
returns-in_err-within g c =
    let e : PlacedArea = (c.in_ok-owner.field-0-0.now, c.in_ok-owner.area.now) in
    ap (option_map {U = PlacedArea} (λ found. ((c.args.pid, found.0), found.1))) c.from_residual-in_err-within.ensures
    ∙ sym (over_not c.self.inside.areas c.args.self.now.areas (ap (λ (x : Table). x.areas) c.self.view_is) c.requires.apart c.requires.whole c.args.pid c.args.vpn c.range.result c.next_back.new.self e
    (c.range.ensures.in_range tt) c.in_ok-owner.ensures.steps (λ k. c.in_err-within.ensures (let parts = covers_parts e c.args.pid c.args.vpn k in omega (arith, parts.1, c.number.ensures, c.number-2.ensures))))

pub returns-then-within-area : goal.returns-then-within-area
returns-then-within-area g c =
    let e : PlacedArea = (c.in_ok-owner.field-0-0.now, c.in_ok-owner.area.now) in
    over_it c.self.inside.areas c.args.self.now.areas (ap (λ (x : Table). x.areas) c.self.view_is) c.requires.apart c.requires.whole c.args.pid c.args.vpn c.range.result c.next_back.new.self e
    (c.range.ensures.in_range tt) c.in_ok-owner.ensures.steps c.if-eq.ensures (omega (arith, c.in_ok-within.ensures.0, c.number.ensures, c.number-2.ensures))
    (omega (arith, c.in_ok-within.ensures.0, c.in_ok-within.ensures.1, c.number.ensures, c.number-2.ensures, c.if-within-area.true))

pub returns-else-eq : goal.returns-else-eq
returns-else-eq g c =
    let e : PlacedArea = (c.in_ok-owner.field-0-0.now, c.in_ok-owner.area.now) in
    sym (over_not c.self.inside.areas c.args.self.now.areas (ap (λ (x : Table). x.areas) c.self.view_is) c.requires.apart c.requires.whole c.args.pid c.args.vpn c.range.result c.next_back.new.self e
    (c.range.ensures.in_range tt) c.in_ok-owner.ensures.steps (λ k.
    let parts = covers_parts e c.args.pid c.args.vpn k in
    let same : nat_eq e.0.0 c.args.pid ≡ true = eq-eqb e.0.0 c.args.pid parts.0 in
    elim c.else-eq.branch [
      | else-eq-via-then-eq+else-within-area w ↦ absurd (omega (arith, w.if-within-area.false, parts.2, c.in_ok-within.ensures.0, c.in_ok-within.ensures.1, c.number.ensures, c.number-2.ensures))
      | else-eq-via-else-eq w ↦ true_false (sym same ∙ sym w.if-eq.ensures)
    ]))
