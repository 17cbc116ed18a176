use Rattle.atomic_table.specs.Seated.{TableId}
use Rattle.nm_board.specs.Shown.{Holding, holding_of}
use Rattle.std.proofs.Common.{◌<◌, ◌∷◌, length, sym, ap, ◌∙◌, arith, None, ◌≡◌, ℕ, ◌≤◌, Bool, true}
use lib.ListN.{get_elem?}
use Rattle.atomic_table.specs.Table.{rest}
use Rattle.nm_board.specs.Steps.{Mine}
use Rattle.nm_board.proofs.Counts.{get_of}
use Rattle.nm_board.proofs.Stepping.{draws}
use Rattle.nm_board.proofs.Hands.{drew, same_value, fits_drew, own_is, fits_past, headed}
use Rattle.nm_board.proofs.board.Board.draw.Given.{Over}
use Rattle.nm_board.proofs.board.Board.draw.Goals.{Else-ticket-slot_count}
use Rattle.nm_board.proofs.board.Board.draw.Goals as goal

past_shown : {A : Type 0} (id tid : TableId) (m n : Mine A) (shares : ℕ) (past : Bool) (h : Holding A) → id ≡ tid → n ≡ (record m.0 { past_end = true }, m.1) → holding_of tid m shares past ≡ h → holding_of id n shares true ≡ record h { past_end = true }
past_shown {A} id tid m n shares past h at is e = ap (λ z. holding_of z n shares true) at ∙ (ap (λ (z : Mine A). holding_of tid z shares true) is ∙ ap (λ (z : Holding A). record z { past_end = true }) e)

pub fetch_add-ticket-requires : goal.fetch_add-ticket-requires
fetch_add-ticket-requires g c =
    let f = c.hand.invariant in
    let own = own_is _ _ _ _ _ c.hand.inside.seat.me _ _ c.hand.view_is c.requires.own c.self.view_is in (
      own.0,
      omega (arith, c.self.invariant.words),
      draws _ _ _ _ (omega (arith, f.shares_are, f.some_share)) (f.past_is ∙ (ap (λ h. h.past_end) c.hand.view_is ∙ c.requires.open)),
    )

-- the ticket is that of a job
drawn_inside : (g : Over) (c : Else-ticket-slot_count g) → c.fetch_add-ticket.result < length c.hand.inside.seat.me.0.jobs
drawn_inside g c =
    let own = own_is _ _ _ _ _ c.hand.inside.seat.me _ _ c.hand.view_is c.requires.own c.self.view_is in
    omega (arith, ap length own.1, c.self.invariant.slots, c.slot_count.ensures, c.if-ticket-slot_count.false)

pub invariant_of-hand-2 : goal.invariant_of-hand-2
invariant_of-hand-2 g c =
    let took = c.fetch_add-ticket.ensures.2.below (drawn_inside g (goal.at.invariant_of-hand-2 g c).Else-ticket-slot_count) in
    fits_drew _ _ _ _ _ _ c.hand.invariant (ap (λ h. h.past_end) c.hand.view_is ∙ c.requires.open) took.above
    (c.take_out.ensures.seat.2 ∙ ap (λ (z : Mine _). (z.0, (c.fetch_add-ticket.result, None) ∷ rest z.1)) took.now)

pub returns-clause-job : goal.returns-clause-job
returns-clause-job g c =
    let own = own_is _ _ _ _ _ c.hand.inside.seat.me _ _ c.hand.view_is c.requires.own c.self.view_is in
    let took = c.fetch_add-ticket.ensures.2.below (drawn_inside g (goal.at.returns-clause-job g c).Else-ticket-slot_count) in
    let now = c.take_out.ensures.seat.2 ∙ ap (λ (z : Mine _). (z.0, (c.fetch_add-ticket.result, None) ∷ rest z.1)) took.now in
    let is = same_value _ _ _ _ _ _ (ap (λ (z : Mine _). z.1) took.now) c.take_out.ensures.job in
    let number = c.self.invariant.in_order c.fetch_add-ticket.result took.job (get_of c.self.inside.table.shared.key.value.items c.fetch_add-ticket.result took.job (ap (λ l. get_elem? l c.fetch_add-ticket.result) (sym own.1) ∙ took.laid)) in
    rw is (drew c.args.hand.now _ _ _ _ _ _ took.job c.fetch_add-ticket.result None c.hand.view_is (c.take_out.ensures.seat.0 ∙ c.fetch_add-ticket.ensures.0) number took.laid now took.above)

pub invariant_of-hand : goal.invariant_of-hand
invariant_of-hand g c =
    let own = own_is _ _ _ _ _ c.hand.inside.seat.me _ _ c.hand.view_is c.requires.own c.self.view_is in
    let le : length c.hand.inside.seat.me.0.jobs ≤ c.fetch_add-ticket.result = omega (arith, ap length own.1, c.self.invariant.slots, c.slot_count.ensures, c.if-ticket-slot_count.true) in
    fits_past _ _ _ _ c.hand.invariant (c.fetch_add-ticket.ensures.2.past le)

pub returns-then-ticket-slot_count-clause-none : goal.returns-then-ticket-slot_count-clause-none
returns-then-ticket-slot_count-clause-none g c =
    let own = own_is _ _ _ _ _ c.hand.inside.seat.me _ _ c.hand.view_is c.requires.own c.self.view_is in
    let le : length c.hand.inside.seat.me.0.jobs ≤ c.fetch_add-ticket.result = omega (arith, ap length own.1, c.self.invariant.slots, c.slot_count.ensures, c.if-ticket-slot_count.true) in
    past_shown _ _ c.hand.inside.seat.me _ _ _ _ c.fetch_add-ticket.ensures.0 (c.fetch_add-ticket.ensures.2.past le).now c.hand.view_is

pub returns-then-ticket-slot_count-clause-each : goal.returns-then-ticket-slot_count-clause-each
returns-then-ticket-slot_count-clause-each g c = λ all.
    let own = own_is _ _ _ _ _ c.hand.inside.seat.me _ _ c.hand.view_is c.requires.own c.self.view_is in
    let le : length c.hand.inside.seat.me.0.jobs ≤ c.fetch_add-ticket.result = omega (arith, ap length own.1, c.self.invariant.slots, c.slot_count.ensures, c.if-ticket-slot_count.true) in
    let none = c.fetch_add-ticket.ensures.2.past le in
    none.each (ap (λ (z : Mine _). z.0.shares) none.now ∙ (c.hand.invariant.shares_are ∙ all)) (ap (λ (z : Mine _). z.0.past_end) none.now)

pub take_out-requires-clause-own : goal.take_out-requires-clause-own
take_out-requires-clause-own g c =
    let own = own_is _ _ _ _ _ c.hand.inside.seat.me _ _ c.hand.view_is c.requires.own c.self.view_is in
    c.fetch_add-ticket.ensures.0 ∙ own.0

pub take_out-requires-clause-last : goal.take_out-requires-clause-last
take_out-requires-clause-last g c =
    let took = c.fetch_add-ticket.ensures.2.below (drawn_inside g (goal.at.take_out-requires-clause-last g c).Else-ticket-slot_count) in
    (took.job, headed _ _ _ _ (ap (λ (z : Mine _). z.1) took.now))

pub returns-clause-none : goal.returns-clause-none
returns-clause-none g c =
    let took = c.fetch_add-ticket.ensures.2.below (drawn_inside g (goal.at.returns-clause-none g c).Else-ticket-slot_count) in
    rw (same_value _ _ _ _ _ _ (ap (λ (z : Mine _). z.1) took.now) c.take_out.ensures.job) tt

pub returns-clause-each : goal.returns-clause-each
returns-clause-each g c =
    let took = c.fetch_add-ticket.ensures.2.below (drawn_inside g (goal.at.returns-clause-each g c).Else-ticket-slot_count) in
    rw (same_value _ _ _ _ _ _ (ap (λ (z : Mine _). z.1) took.now) c.take_out.ensures.job) tt
