use Rattle.std.proofs.Common.{true, sym, subst, arith}
use Rattle.std.specs.BTreeSet.{Updates}
use Rattle.nm_types.specs.Map.{page_cmp}
use Rattle.nm_plan.proofs.Searched.{one_ascends, one_of_few, one_past_few}
use Rattle.nm_plan.specs.Found.{IsPast}
use Rattle.nm_plan.proofs.search.Search.add.Goals as goal

pub returns-then-is_past-clause-finds : goal.returns-then-is_past-clause-finds
returns-then-is_past-clause-finds g c = λ taken is.
    one_ascends c.args.self.now c.args.moves.now taken c.requires (omega (arith, c.if-behind-eq0.true, c.requires.within)) (subst (IsPast c.args.moves.now) (sym is) c.if-is_past.ensures.past)

pub returns-in_ok-insert-clause-finds : goal.returns-in_ok-insert-clause-finds
returns-in_ok-insert-clause-finds g c = λ taken is.
    one_past_few c.args.self.now c.args.moves.now taken c.requires c.insert.new.self (omega arith) (subst (λ p. Updates page_cmp c.args.self.now.later c.insert.new.self p true) (sym is) c.in_ok-insert.ensures.updates)

pub returns-else-behind-ge-FEW-clause-finds : goal.returns-else-behind-ge-FEW-clause-finds
returns-else-behind-ge-FEW-clause-finds g c = λ taken is. one_of_few c.args.self.now c.args.moves.now taken c.requires (omega arith)
