use Rattle.std.proofs.Common.{◌≡◌, ℕ, ◌-◌, [], Bool, ap, ◌∙◌, arith}
use Rattle.atomic_table.specs.Seated.{TableId}
use Rattle.nm_board.specs.Steps.{Mine, less, part}
use Rattle.nm_board.specs.Shown.{Holding, drop_ticket, split_off, holding_of}
use Rattle.nm_board.proofs.Hands.{fits_less, fits_part, own_is}
use Rattle.nm_board.proofs.hand.Hand.split.Goals as goal

left_shown : {A : Type 0} (id tid : TableId) (m n : Mine A) (s k : ℕ) (p : Bool) (h : Holding A) → id ≡ tid → n ≡ (less k m.0, m.1) → holding_of tid m s p ≡ h → holding_of id n (s - k) p ≡ drop_ticket h k
left_shown {A} id tid m n s k p h at is e = ap (λ z. holding_of z n (s - k) p) at ∙ (ap (λ (z : Mine A). holding_of tid z (s - k) p) is ∙ ap (λ (z : Holding A). drop_ticket z k) e)

new_shown : {A : Type 0} (id tid : TableId) (m n : Mine A) (s k : ℕ) (p : Bool) (h : Holding A) → id ≡ tid → n ≡ (part k m.0, []) → holding_of tid m s p ≡ h → holding_of id n k p ≡ split_off h k
new_shown {A} id tid m n s k p h at is e = ap (λ z. holding_of z n k p) at ∙ (ap (λ (z : Mine A). holding_of tid z k p) is ∙ ap (λ (z : Holding A). split_off z k) e)

pub cut-seat-requires-clause-table : goal.cut-seat-requires-clause-table
cut-seat-requires-clause-table g c =
    let own = own_is _ _ _ _ _ c.self.inside.seat.me _ _ c.self.view_is c.requires.own c.board.view_is in
    (own.0, c.board.invariant.words)

pub cut-seat-requires-clause-shares : goal.cut-seat-requires-clause-shares
cut-seat-requires-clause-shares g c = (c.requires.some, omega (arith, c.self.invariant.shares_are, ap (λ h. h.shares) c.self.view_is, c.requires.fewer))

pub overflow_sub-self : goal.overflow_sub-self
overflow_sub-self g c = omega (arith, ap (λ h. h.shares) c.self.view_is, c.requires.fewer)

pub invariant_of-self : goal.invariant_of-self
invariant_of-self g c = fits_less c.self.inside.seat.me _ c.self.inside.shares c.args.shares _ c.self.invariant c.requires.some (omega (arith, ap (λ h. h.shares) c.self.view_is, c.requires.fewer)) c.cut-seat.ensures.left

pub invariant_of-result : goal.invariant_of-result
invariant_of-result g c = fits_part c.self.inside.seat.me _ c.self.inside.shares c.args.shares _ c.self.invariant c.requires.some (omega (arith, ap (λ h. h.shares) c.self.view_is, c.requires.fewer)) c.cut-seat.ensures.part

pub returns-clause-left : goal.returns-clause-left
returns-clause-left g c = left_shown _ _ _ _ _ _ _ _ c.cut-seat.ensures.table.0 c.cut-seat.ensures.left c.self.view_is

pub returns-clause-new : goal.returns-clause-new
returns-clause-new g c = new_shown _ _ c.self.inside.seat.me _ c.self.inside.shares _ _ _ c.cut-seat.ensures.table.1 c.cut-seat.ensures.part c.self.view_is
