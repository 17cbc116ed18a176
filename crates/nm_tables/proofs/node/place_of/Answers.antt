use Rattle.std.proofs.Common.{◌≡◌, ◌+◌, ◌-◌, ◌<◌, ◌/◌, length, get_or, drop, subst, arith, rules}
use Rattle.std.specs.List.{AllByRecursion}
use Rattle.std.specs.Map.{keys_of}
use Rattle.nm_tables.proofs.Parts.{below_at, above_at}
use Rattle.nm_tables.proofs.node.place_of.Goals as goal

pub loop-low-preserved-then-at-number-2 : goal.loop-low-preserved-then-at-number-2
loop-low-preserved-then-at-number-2 g c =
    let l = c.loop-low in
    let parts = c.args.parts.now in
    let e = c.index-parts-middle.result in
    let middle = l.low + (l.high - l.low) / 2 in
    let inside : middle < length parts = grind arith in
    let lower : e.0 < c.args.number = search rules in
    let lower_there : (get_or parts middle e).0 < c.args.number = subst (λ d. d.0 < c.args.number) c.index-parts-middle.is lower in
    record {
      order = grind arith;
      within = l.invariant.within;
      below = below_at parts middle e c.args.number c.requires.ordered inside lower_there;
      above = l.invariant.above;
    }

pub loop-low-preserved : goal.loop-low-preserved
loop-low-preserved g c =
    let l = c.loop-low in
    let parts = c.args.parts.now in
    let e = c.index-parts-middle.result in
    let middle = l.low + (l.high - l.low) / 2 in
    let inside : middle < length parts = grind arith in
    let higher : c.args.number < e.0 = search rules in
    let higher_there : c.args.number < (get_or parts middle e).0 = subst (λ d. c.args.number < d.0) c.index-parts-middle.is higher in
    record {
      order = grind arith;
      within = grind arith;
      below = l.invariant.below;
      above = above_at parts middle e c.args.number c.requires.ordered inside higher_there;
    }

pub returns-clause-fits : goal.returns-clause-fits
returns-clause-fits g c =
    let l = c.loop-low in
    let order = l.invariant.order in
    let within = l.invariant.within in
    let met : l.high ≡ l.low = grind arith in
    (grind arith, l.invariant.below, subst (λ i. AllByRecursion (λ k. c.args.number < k) (keys_of (drop i c.args.parts.now))) met l.invariant.above)
