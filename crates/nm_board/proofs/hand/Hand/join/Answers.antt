use Rattle.atomic_table.specs.Seated.{TableId}
use Rattle.nm_board.specs.Shown.{Holding, Fits, both_holdings, holding_of}
use Rattle.nm_board.specs.Tickets.{ticket_times}
use Rattle.nm_board.specs.Steps.{Mine, both}
use Rattle.std.proofs.Common.{refl, ap, ◌∙◌, arith, ◌≡◌, ℕ, ◌+◌, Bool, ◌||◌}
use Rattle.nm_board.proofs.Stepping.{joins, looks}
use Rattle.nm_board.proofs.Hands.{none_out, fits_joined, own_is}
use Rattle.nm_board.proofs.hand.Hand.join.Goals as goal

joined_shown : {A : Type 0} (id tid oid : TableId) (m o n : Mine A) (s t : ℕ) (p q : Bool) (h k : Holding A) → id ≡ tid → n ≡ (both m.0 o.0, m.1) → holding_of tid m s p ≡ h → holding_of oid o t q ≡ k → holding_of id n (s + t) (p || q) ≡ both_holdings h k
joined_shown {A} id tid oid m o n s t p q h k at is e f =
    ap (λ z. holding_of z n (s + t) (p || q)) at ∙ (ap (λ (z : Mine A). holding_of tid z (s + t) (p || q)) is ∙ (ap (λ (z : Holding A). both_holdings z (holding_of oid o t q)) e ∙ ap (λ (z : Holding A). both_holdings h z) f))

pub join_seat-requires : goal.join_seat-requires
join_seat-requires g c =
    let f = c.self.invariant in
    let own = own_is _ _ _ _ _ c.self.inside.seat.me _ _ c.self.view_is c.requires.own.0 c.board.view_is in
    let its = own_is _ _ _ _ _ c.other.inside.seat.me _ _ c.other.view_is c.requires.own.1 c.board.view_is in (
      own.0,
      its.0,
      none_out _ (ap (λ h. h.out) c.other.view_is ∙ c.requires.given.1),
      omega (arith, c.board.invariant.words),
      joins _ _ _ _ _ (omega (arith, f.shares_are, f.some_share)),
    )

pub load-requires : goal.load-requires
load-requires g c =
    let own = own_is _ _ _ _ _ c.self.inside.seat.me _ _ c.self.view_is c.requires.own.0 c.board.view_is in
    (c.join_seat.ensures.0 ∙ own.0, omega (arith, c.board.invariant.words), looks _ _ _ _)

pub invariant_of-self : goal.invariant_of-self
invariant_of-self g c = fits_joined c.self.inside.seat.me c.other.inside.seat.me _ _ _ _ _ _ _ _ _ c.self.invariant c.other.invariant
    (ap (λ h. h.out) c.self.view_is ∙ c.requires.given.0) (ap (λ h. h.out) c.other.view_is ∙ c.requires.given.1) c.join_seat.ensures.2 c.load.ensures.2 refl

pub overflow_add-self : goal.overflow_add-self
overflow_add-self g c = omega (arith, c.load.ensures.2.at_most, ap (λ (z : Mine _). z.0.shares) c.join_seat.ensures.2, c.self.invariant.shares_are, c.other.invariant.shares_are)

pub returns-clause-both : goal.returns-clause-both
returns-clause-both g c = joined_shown _ _ _ c.self.inside.seat.me c.other.inside.seat.me _ _ _ _ _ _ _ (c.load.ensures.0 ∙ c.join_seat.ensures.0) (c.load.ensures.2.same ∙ c.join_seat.ensures.2) c.self.view_is c.other.view_is

pub returns-clause-once : goal.returns-clause-once
returns-clause-once g c = λ t. omega (arith, c.load.ensures.2.once t, ap (λ (z : Mine _). ticket_times t z.0.drawn) c.load.ensures.2.same)

pub returns-clause-each : goal.returns-clause-each
returns-clause-each g c = λ past all.
    let f : Fits c.load.new.seat.me (c.self.inside.shares + c.other.inside.shares) (c.self.inside.past_end || c.other.inside.past_end)
    = fits_joined c.self.inside.seat.me c.other.inside.seat.me _ _ _ _ _ _ _ _ _ c.self.invariant c.other.invariant
    (ap (λ h. h.out) c.self.view_is ∙ c.requires.given.0) (ap (λ h. h.out) c.other.view_is ∙ c.requires.given.1) c.join_seat.ensures.2 c.load.ensures.2 refl in
    f.each (f.shares_are ∙ all) (f.past_is ∙ past)
