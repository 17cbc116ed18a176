use Rattle.atomic_table.specs.Seated.{TableId}
use Rattle.std.proofs.Common.{◌≡◌, length, map, sym, refl, ap, ◌∙◌, subst, arith, ℕ, Bool}
use Rattle.nm_board.specs.Steps.{Mine}
use Rattle.nm_board.specs.Shown.{Holding, Laying, holding_of}
use Rattle.std.specs.Mem.Slots.{slots_items}
use Rattle.nm_frames.specs.Job.{job_after_copy}
use Rattle.nm_board.proofs.Stepping.{counts}
use Rattle.nm_board.proofs.Full.{closed}
use Rattle.nm_board.proofs.Filled.{each_is, same_jobs}
use Rattle.nm_board.proofs.Hands.{own_is, short_of}
use Rattle.nm_board.proofs.board.Board.clear.Goals as goal

same_shown : {A : Type 0} (id tid : TableId) (m n : Mine A) (shares : ℕ) (past : Bool) (h : Holding A) → id ≡ tid → m ≡ n → holding_of tid n shares past ≡ h → holding_of id m shares past ≡ h
same_shown {A} id tid m n shares past h at is e = ap (λ z. holding_of z m shares past) at ∙ (ap (λ (z : Mine A). holding_of tid z shares past) is ∙ e)

pub load-given-requires : goal.load-given-requires
load-given-requires g c =
    let f = c.hand.invariant in
    let own = own_is _ _ _ _ _ c.hand.inside.seat.me _ _ c.hand.view_is c.requires.own c.self.view_is in
    (own.0, omega (arith, c.self.invariant.words), counts _ _ _ _ (omega (arith, f.shares_are, f.some_share)))

pub returns-then-given-slot_count-clause-short : goal.returns-then-given-slot_count-clause-short
returns-then-given-slot_count-clause-short g c = λ all.
    let own = own_is _ _ _ _ _ c.hand.inside.seat.me _ _ c.hand.view_is c.requires.own c.self.view_is in
    let f = c.hand.invariant in
    let shares = f.shares_are ∙ (ap (λ h. h.shares) c.hand.view_is ∙ all) in
    let past = f.past_is ∙ (ap (λ h. h.past_end) c.hand.view_is ∙ c.requires.past_end) in
    subst (λ h. Rattle.nm_board.specs.Shown.IsShort h) c.hand.view_is
    (short_of _ c.hand.inside.seat.me _ _ _ f refl (λ same.
    c.if-given-slot_count.true (c.load-given.ensures.2.whole shares past same ∙ (ap length own.1 ∙ (sym c.self.invariant.slots ∙ sym c.slot_count.ensures)))))

pub take_all-requires-clause-jobs : goal.take_all-requires-clause-jobs
take_all-requires-clause-jobs g c =
    let own = own_is _ _ _ _ _ c.hand.inside.seat.me _ _ c.hand.view_is c.requires.own c.self.view_is in
    let jobs = c.self.inside.table.shared.key.value.items in
    let found = c.if-given-slot_count.false ∙ (c.slot_count.ensures ∙ (c.self.invariant.slots ∙ sym (ap length own.1))) in
    let full = ap (λ (m : Mine _). m.0.full) (c.load-given.ensures.2.all found) in
    let slots : length (slots_items c.close_with.result.slots) ≡ length jobs = omega (arith, c.close_with.ensures.counts.1, c.self.invariant.slots) in
    (map job_after_copy jobs, each_is jobs (slots_items c.close_with.result.slots) slots (λ t j at. closed _ _ _ _ _ full c.close_with.ensures.values.2 t j at))

pub returns-clause-all : goal.returns-clause-all
returns-clause-all g c =
    let own = own_is _ _ _ _ _ c.hand.inside.seat.me _ _ c.hand.view_is c.requires.own c.self.view_is in
    let jobs = c.self.inside.table.shared.key.value.items in
    let found = c.if-given-slot_count.false ∙ (c.slot_count.ensures ∙ (c.self.invariant.slots ∙ sym (ap length own.1))) in
    let full = ap (λ (m : Mine _). m.0.full) (c.load-given.ensures.2.all found) in
    let slots : length (slots_items c.close_with.result.slots) ≡ length jobs = omega (arith, c.close_with.ensures.counts.1, c.self.invariant.slots) in
    let all = each_is jobs (slots_items c.close_with.result.slots) slots (λ t j at. closed _ _ _ _ _ full c.close_with.ensures.values.2 t j at) in
    same_jobs (map job_after_copy jobs) c.take_all.new.room.items (sym all ∙ sym c.take_all.ensures) ∙ ap (λ (b : Laying _). map job_after_copy b.jobs) c.self.view_is

pub invariant_of-hand : goal.invariant_of-hand
invariant_of-hand g c =
    let own = own_is _ _ _ _ _ c.hand.inside.seat.me _ _ c.hand.view_is c.requires.own c.self.view_is in
    let same = c.load-given.ensures.2.some_out (λ q. c.if-given-slot_count.true (q ∙ (ap length own.1 ∙ (sym c.self.invariant.slots ∙ sym c.slot_count.ensures)))) in
    subst (λ m. Rattle.nm_board.specs.Shown.Fits m c.hand.inside.shares c.hand.inside.past_end) (sym same) c.hand.invariant

pub returns-then-given-slot_count-clause-back : goal.returns-then-given-slot_count-clause-back
returns-then-given-slot_count-clause-back g c =
    let own = own_is _ _ _ _ _ c.hand.inside.seat.me _ _ c.hand.view_is c.requires.own c.self.view_is in
    let same = c.load-given.ensures.2.some_out (λ q. c.if-given-slot_count.true (q ∙ (ap length own.1 ∙ (sym c.self.invariant.slots ∙ sym c.slot_count.ensures)))) in
    (refl, same_shown _ _ _ _ _ _ _ c.load-given.ensures.0 same c.hand.view_is)

pub close_with-requires : goal.close_with-requires
close_with-requires g c =
    let own = own_is _ _ _ _ _ c.hand.inside.seat.me _ _ c.hand.view_is c.requires.own c.self.view_is in
    c.load-given.ensures.0 ∙ own.0

pub take_all-requires-clause-full : goal.take_all-requires-clause-full
take_all-requires-clause-full g c = c.close_with.ensures.values.1

pub take_all-requires-clause-room : goal.take_all-requires-clause-room
take_all-requires-clause-room g c = (c.self.invariant.empty, omega (arith, c.close_with.ensures.counts.1, c.self.invariant.slots, c.self.invariant.room_left))

pub returns-then-given-slot_count-clause-fewer : goal.returns-then-given-slot_count-clause-fewer
returns-then-given-slot_count-clause-fewer g c =
    let own = own_is _ _ _ _ _ c.hand.inside.seat.me _ _ c.hand.view_is c.requires.own c.self.view_is in
    let counts = c.load-given.ensures.2 in
    let done = ap (λ (h : Holding _). length h.done) c.hand.view_is in
    let jobs = ap (λ (b : Laying _). length b.jobs) c.self.view_is in
    let apart = c.if-given-slot_count.true in
    omega (arith, counts.own, counts.few, done, jobs, ap length own.1, c.self.invariant.slots, c.slot_count.ensures, apart)
