use Rattle.std.proofs.Common.{◌≡◌, ap, ◌∙◌, subst}
use Rattle.nm_board.specs.Shown.{HasEach, HasNoneTwice, OutIsTheRest}
use Rattle.nm_board.proofs.hand.Hand.past_end.Goals as goal

pub returns-clause-value : goal.returns-clause-value
returns-clause-value g c = ap (λ h. h.past_end) c.self.view_is

pub returns-clause-once : goal.returns-clause-once
returns-clause-once g c = subst (λ h. HasNoneTwice h) c.self.view_is c.self.invariant.once

pub returns-clause-rest : goal.returns-clause-rest
returns-clause-rest g c = subst (λ h. OutIsTheRest h) c.self.view_is c.self.invariant.out

pub returns-clause-each : goal.returns-clause-each
returns-clause-each g c = λ past. subst (λ h. h.shares ≡ 64 → HasEach h) c.self.view_is (λ all. c.self.invariant.each (c.self.invariant.shares_are ∙ all) (c.self.invariant.past_is ∙ past))
