use Rattle.nm_frames.specs.declared.job.CopyJob.{CopyJob}
use Rattle.atomic_table.specs.Seated.{TableId}
use Rattle.nm_board.specs.Shown.{all_shares, holding_of}
use Rattle.nm_board.specs.Rule.{first_view}
use Rattle.nm_board.specs.Steps.{Mine}
use Rattle.std.proofs.Common.{map, length, Some, ap, ◌∙◌, sym, subst, arith, ◌≡◌, List, [], false}
use Rattle.std.proofs.lemmas.List.{length-map}
use Rattle.nm_board.specs.Tickets.{InTicketOrder}
use Rattle.nm_board.proofs.Stepping.{opens}
use Rattle.nm_board.proofs.Hands.{fits_first}
use Rattle.nm_board.proofs.board.Board.lay.Goals as goal

first_shown : {A : Type 0} (id tid : TableId) (js jobs : List (CopyJob A)) (m : Mine A) → id ≡ tid → m ≡ (first_view js, []) → jobs ≡ js → holding_of id m 64 false ≡ all_shares (record { id = tid; jobs = jobs })
first_shown {A} id tid js jobs m at is same = ap (λ z. holding_of z m 64 false) at ∙ (ap (λ (z : Mine A). holding_of tid z 64 false) is ∙ ap (λ (z : List (CopyJob A)). all_shares (record { id = tid; jobs = z })) (sym same))

pub new-requires : goal.new-requires
new-requires g c =
    let is = ap (λ v. v.items) c.of-laid.ensures in
    opens _ _ (c.in-Ok.ensures.ok.0 ∙ sym (ap (map Some) is)) (omega arith)

pub invariant_of-result : goal.invariant_of-result
invariant_of-result g c =
    let ok = c.in-Ok-new.ensures.ok in
    let laid = ap (λ k. k.value) ok.5 ∙ c.of-laid.ensures in
    let items = ap (λ v. v.items) laid in record {
      words = ok.0;
      slots = ok.1 ∙ (ap length c.in-Ok.ensures.ok.0 ∙ (length-map c.args.jobs.items Some ∙ ap length (sym items)));
      few = omega (arith, ap length items, c.args.jobs.small, c.args.jobs.ok);
      in_order = subst (λ jobs. InTicketOrder jobs) (sym items) c.requires;
      empty = c.in-Ok.ensures.ok.1;
      room_left = omega (arith, ap length items, c.in-Ok.ensures.room, c.args.jobs.ok);
    }

pub returns-in_default-clause-refused : goal.returns-in_default-clause-refused
returns-in_default-clause-refused g c = c.in_default.ensures.err

pub invariant_of-result-in-Ok-new : goal.invariant_of-result-in-Ok-new
invariant_of-result-in-Ok-new g c = fits_first _ _ c.in-Ok-new.ensures.ok.4

pub returns-in-Ok-new-clause-jobs : goal.returns-in-Ok-new-clause-jobs
returns-in-Ok-new-clause-jobs g c = ap (λ k. k.value.items) c.in-Ok-new.ensures.ok.5 ∙ ap (λ v. v.items) c.of-laid.ensures

pub returns-in-Ok-new-clause-hand : goal.returns-in-Ok-new-clause-hand
returns-in-Ok-new-clause-hand g c = let ok = c.in-Ok-new.ensures.ok in first_shown _ _ _ _ _ ok.2 ok.4 (ap (λ k. k.value.items) ok.5)

pub refill-requires-clause-slots : goal.refill-requires-clause-slots
refill-requires-clause-slots g c = c.in-Err.ensures.err ∙ (c.in-Ok.ensures.ok.0 ∙ sym (ap (λ v. map Some v.items) c.of-laid.ensures))

pub refill-requires-clause-room : goal.refill-requires-clause-room
refill-requires-clause-room g c = (c.in-Ok.ensures.ok.1, omega (arith, ap (λ v. length v.items) c.of-laid.ensures, c.in-Ok.ensures.room, c.args.jobs.ok))

pub returns-clause-refused : goal.returns-clause-refused
returns-clause-refused g c = c.refill.ensures ∙ ap (λ v. v.items) c.of-laid.ensures
