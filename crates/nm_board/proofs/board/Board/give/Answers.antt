use Rattle.std.proofs.Common.{map, ap, ◌∙◌, arith, Some}
use Rattle.std.specs.Prelude.{slice_get}
use Rattle.nm_frames.specs.Job.{job_after_copy}
use Rattle.nm_board.proofs.Hands.{front_is, fits_gave, gives_at, gave_is, own_is, laid_for}
use Rattle.nm_board.proofs.board.Board.give.Goals as goal

pub put_in-requires-clause-last : goal.put_in-requires-clause-last
put_in-requires-clause-last g c = front_is _ _ (ap (λ h. slice_get h.out 0) c.hand.view_is ∙ c.requires.last)

pub fetch_add-requires : goal.fetch_add-requires
fetch_add-requires g c =
    let own = own_is _ _ _ _ _ c.hand.inside.seat.me _ _ c.hand.view_is c.requires.own c.self.view_is in
    let last = ap (λ h. slice_get h.out 0) c.hand.view_is ∙ c.requires.last in
    let copy = laid_for c.self.inside.table.shared.key.value.items c.args.job.ticket c.args.job (ap (λ b. slice_get (map job_after_copy b.jobs) c.args.job.ticket) c.self.view_is ∙ c.requires.job) in (
      c.put_in.ensures.0 ∙ own.0,
      omega (arith, c.self.invariant.words),
      gives_at _ _ _ c.hand.inside.seat.me _ c.args.job copy.0 _ _ c.hand.invariant last copy.1 copy.2 c.put_in.ensures.2,
    )

pub invariant_of-hand : goal.invariant_of-hand
invariant_of-hand g c =
    let last = ap (λ h. slice_get h.out 0) c.hand.view_is ∙ c.requires.last in
    let top = front_is _ _ last in
    fits_gave c.hand.inside.seat.me _ _ _ _ _ _ c.hand.invariant top.1 (gave_is c.hand.inside.seat.me c.put_in.new.seat.me c.fetch_add.new.seat.me c.args.job.ticket (Some c.args.job) c.put_in.ensures.2 c.fetch_add.ensures.2)
