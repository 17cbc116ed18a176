use Rattle.std.proofs.Common.{ap, subst, sym, ◌∙◌}
use Rattle.std.specs.List.{AllByRecursion}
use Rattle.nm_spaces.specs.views.ProcessTable.{IsThere, all_replaced}
use Rattle.nm_spaces.proofs.Held.ReplacedEntries.{all_there_stay}
use Rattle.nm_spaces.proofs.address_spaces.held.replace_set.Goals as goal

pub loop-pid-init : goal.loop-pid-init
loop-pid-init g c =
    let all = c.into_iter-pid-iterator.ensures.into_iter_gives ∙ c.iter-pid-items.ensures.rest in
    record {
      there = subst (AllByRecursion (IsThere c.args.tasks.now)) (sym all) c.requires;
      made = ap (λ l. all_replaced c.args.tasks.now l c.args.entry.now) all;
    }

pub replace_near-place-requires : goal.replace_near-place-requires
replace_near-place-requires g c = (subst (AllByRecursion (IsThere c.loop-pid.tasks)) c.in-Some.ensures.steps c.loop-pid.invariant.there).0

pub loop-pid-preserved : goal.loop-pid-preserved
loop-pid-preserved g c =
    let there = subst (AllByRecursion (IsThere c.loop-pid.tasks)) c.in-Some.ensures.steps c.loop-pid.invariant.there in
    record {
      there = subst (λ ts. AllByRecursion (IsThere ts) c.next.new.self) (sym c.replace_near-place.ensures) (all_there_stay c.loop-pid.tasks c.args.entry.now c.in-Some.field-0.now c.next.new.self there.0 there.1);
      made = ap (λ ts. all_replaced ts c.next.new.self c.args.entry.now) c.replace_near-place.ensures
          ∙ sym (ap (λ l. all_replaced c.loop-pid.tasks l c.args.entry.now) c.in-Some.ensures.steps) ∙ c.loop-pid.invariant.made;
    }

pub returns : goal.returns
returns g c = sym (ap (λ l. all_replaced c.loop-pid.tasks l c.args.entry.now) c.in-None.ensures.steps.0) ∙ c.loop-pid.invariant.made
