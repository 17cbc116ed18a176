use Rattle.std.proofs.Common.{◌∷◌, ap, sym, ◌∙◌, drop, arith}
use Rattle.nm_calls.specs.definitions.Maps.{stretches}
use Rattle.nm_calls.proofs.Lines.ConsecutiveNodes.{extended, head_is, none_left, ends_here}
use Rattle.nm_calls.proofs.maps.take_stretch.Goals as goal

pub returns-then-from : goal.returns-then-from
returns-then-from c =
    let head = head_is c.loop-next.rest c.nth.result c.in-Some.next c.nth.ensures c.in-Some.is in
    c.loop-next.invariant
    ∙ ap (λ ns. extended c.args.first (stretches (c.loop-next.last ∷ ns))) head
    ∙ ends_here c.args.first c.loop-next.last c.in-Some.next (drop 1 c.loop-next.rest) (λ e. c.if-from.true (omega (arith, e)))
    ∙ ap (λ ns. (c.args.first, c.loop-next.last) ∷ stretches ns) (sym head)

pub returns : goal.returns
returns c =
    let empty = none_left c.loop-next.rest c.nth.result c.nth.ensures c.in_default.is in
    c.loop-next.invariant
    ∙ ap (λ ns. extended c.args.first (stretches (c.loop-next.last ∷ ns))) empty
    ∙ ap (λ ns. (c.args.first, c.loop-next.last) ∷ stretches ns) (sym empty)
