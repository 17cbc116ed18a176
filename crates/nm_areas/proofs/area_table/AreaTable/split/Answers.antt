use Rattle.std.proofs.Common.{refl, ap, sym, arith, ◌-◌}
use Rattle.nm_model.specs.definitions.Areas.{HasIndices}
use Rattle.nm_model.specs.views.Table.{Table}
use Rattle.nm_model.specs.views.Table.{with_areas}
use Rattle.nm_model.proofs.areas.Parted.{All-among}
use Rattle.nm_areas.proofs.Beginning.{none_inside, same_front}
use Rattle.nm_areas.proofs.Counted.{err_always}
use Rattle.nm_model.proofs.areas.Cut.{split_nothing, over_facts, split_made}
use Rattle.nm_areas.proofs.area_table.AreaTable.split.Goals as goal

pub returns-in_default-clause-ok : goal.returns-in_default-clause-ok
returns-in_default-clause-ok g c =
    ap (with_areas c.args.self.now) (sym (split_nothing c.args.pid c.args.at c.args.self.now.areas _ c.requires.whole c.requires.apart c.in_default.ensures tt))

pub overflow_sub-front : goal.overflow_sub-front
overflow_sub-front g c =
    let facts = over_facts c.args.pid c.args.at c.args.self.now.areas _ _ c.in-Some.ensures in
    omega (arith, facts.1, c.number.ensures, c.number-2.ensures)

pub returns-then-front-eq0-clause-ok : goal.returns-then-front-eq0-clause-ok
returns-then-front-eq0-clause-ok g c =
    ap (with_areas c.args.self.now)
    (sym (split_nothing c.args.pid c.args.at c.args.self.now.areas _ c.requires.whole c.requires.apart c.in-Some.ensures (omega (arith, c.if-front-eq0.true, c.number.ensures, c.number-2.ensures))))

pub overflow_sub-rest : goal.overflow_sub-rest
overflow_sub-rest g c =
    let facts = over_facts c.args.pid c.args.at c.args.self.now.areas _ _ c.in-Some.ensures in
    omega (arith, facts.1, facts.2, c.number.ensures, c.number-2.ensures)

pub overflow_add-rest : goal.overflow_add-rest
overflow_add-rest g c =
    let facts = over_facts c.args.pid c.args.at c.args.self.now.areas _ _ c.in-Some.ensures in
    let few = All-among HasIndices c.args.self.now.areas _ c.requires.indices facts.0 in
    omega (arith, few, facts.1, facts.2, c.number.ensures, c.number-2.ensures)

pub add-requires : goal.add-requires
add-requires g c =
    let facts = over_facts c.args.pid c.args.at c.args.self.now.areas _ _ c.in-Some.ensures in
    record { free = none_inside c.args.pid c.args.at _ _ c.args.self.now.areas c.requires.apart c.requires.whole (sym c.in-Some.ensures) (omega (arith, facts.1, c.if-front-eq0.false, c.number.ensures, c.number-2.ensures)) }

pub put-requires : goal.put-requires
put-requires g c =
    let now = ap (λ (t : Table). t.areas) c.in_ok-add.ensures.ok in
    record { same = same_front c.args.pid c.args.at _ _ c.args.self.now.areas c.requires.apart c.requires.whole (sym c.in-Some.ensures) _ c.add.new.self.areas refl now }

pub returns-clause-ok : goal.returns-clause-ok
returns-clause-ok g c =
    let facts = over_facts c.args.pid c.args.at c.args.self.now.areas _ _ c.in-Some.ensures in
    split_made c.args.pid c.args.at _ (c.number.result - c.number-2.result) _ c.args.self.now c.add.new.self c.put.new.self
    c.in-Some.ensures (omega (arith, facts.1, c.number.ensures, c.number-2.ensures)) (omega (arith, facts.1, c.if-front-eq0.false, c.number.ensures, c.number-2.ensures))
    c.requires.whole c.requires.apart c.in_ok-add.ensures.ordered c.in_ok-add.ensures.ok c.put.ensures

pub returns-in_err-add-clause-allocates : goal.returns-in_err-add-clause-allocates
returns-in_err-add-clause-allocates g c =
    let facts = over_facts c.args.pid c.args.at c.args.self.now.areas _ _ c.in-Some.ensures in
    err_always c.from_residual.result (_, sym c.in-Some.ensures, omega (arith, facts.1, c.if-front-eq0.false, c.number.ensures, c.number-2.ensures))
