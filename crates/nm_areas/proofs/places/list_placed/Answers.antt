use Rattle.std.proofs.Common.{ap, arith, length, rules, ◌++◌, ◌∙◌}
use Rattle.nm_areas.proofs.Listed.{one_listed, all_listed}
use Rattle.nm_areas.proofs.places.list_placed.Goals as goal

pub loop-page-init : goal.loop-page-init
loop-page-init g c =
    let left = c.into_iter-page-iterator.ensures.into_iter_gives ∙ c.iter-page-items.ensures.rest in
    let many = ap length left in
    record {
      placed = ap (λ xs. xs ++ c.into_iter-page-iterator.result) c.in_ok-placed.ensures.items ∙ left;
      room = omega (arith, c.in_ok-placed.ensures.len, c.in_ok-placed.ensures.capacity, c.len.ensures.len, many);
    }

pub push_reserved-requires : goal.push_reserved-requires
push_reserved-requires g c =
    let one = ap length c.in-Some.ensures.steps in
    omega (arith, one, c.loop-page.invariant.room)

pub loop-page-preserved : goal.loop-page-preserved
loop-page-preserved g c =
    let one = ap length c.in-Some.ensures.steps in
    record {
      placed = one_listed c.loop-page.placed.items c.push_reserved.new.self.items c.loop-page.page-iterator c.next.new.self c.args.places.now.entries _ c.loop-page.invariant.placed c.in-Some.ensures.steps c.push_reserved.ensures.items;
      room = omega (arith, one, c.loop-page.invariant.room, c.push_reserved.ensures.len, c.push_reserved.ensures.capacity);
    }

pub returns-clause-placed : goal.returns-clause-placed
returns-clause-placed g c = all_listed c.loop-page.placed.items c.loop-page.page-iterator c.args.places.now.entries c.loop-page.invariant.placed c.in-None.ensures.steps.0

pub returns-in_err-placed-clause-allocates : goal.returns-in_err-placed-clause-allocates
returns-in_err-placed-clause-allocates g c = search rules
