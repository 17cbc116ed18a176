use Rattle.std.proofs.Common.{◌≡◌, ◌++◌, List, [], ◌∷◌, map, length, refl, sym, ap, subst, ◌∙◌, arith, length-append, append_assoc}
use Rattle.std.specs.List.{AllByRecursion}
use Rattle.std.proofs.lemmas.List.{map-append, append-nil}
use Rattle.nm_model.specs.definitions.Touch.{AccessAnswer}
use Rattle.nm_model.specs.definitions.Frames.{Store}
use Rattle.nm_pool.specs.definitions.AfterCopy.{all_stored_after_copy, answer_from_store, CanDo}
use Rattle.nm_pool.specs.views.Accesses.{answer_shown, pending_shown, HasRoom}
use Rattle.nm_pool.proofs.AfterCopy.Refilled.{all_can_then}
use Rattle.nm_engine.specs.views.Flights.{Flight, with_store}
use Rattle.nm_engine.proofs.run_in_flight.RunInFlight.answer_each.Goals as goal

pub loop-due-init : goal.loop-due-init
loop-due-init g c =
    let all = c.into_iter-due-iterator.ensures.into_iter_gives.0 in
    let shown = pending_shown in
    let place = c.args.self.spaces.place in
    let store = c.args.self.frames.frames in
    let none = ap length c.requires.can.unanswered in
    let many = c.args.all_due.ok.0 in
    let len = ap length all in
    record {
      due = subst (λ ds. AllByRecursion (CanDo place store) (map shown ds)) (sym all) c.requires.can.can;
      room = subst (λ ds. AllByRecursion HasRoom ds) (sym all) c.requires.can.room;
      run = ap (λ ds. with_store c.args.self (all_stored_after_copy place store (map shown ds)).store) all;
      answers = ap (λ xs. map answer_shown xs ++ (all_stored_after_copy place store (map shown c.into_iter-due-iterator.result.rest.items)).answers) c.requires.can.unanswered
          ∙ ap (λ ds. (all_stored_after_copy place store (map shown ds)).answers) all;
      space = omega (arith, none, many, len, c.requires.can.space);
    }

pub access-answer-requires-clause-due : goal.access-answer-requires-clause-due
access-answer-requires-clause-due g c =
    (subst (λ ds. AllByRecursion (CanDo c.loop-due.self.spaces.place c.loop-due.self.frames.frames) (map pending_shown ds)) c.in-Some.ensures.steps.0 c.loop-due.invariant.due).0

pub access-answer-requires-clause-room : goal.access-answer-requires-clause-room
access-answer-requires-clause-room g c = (subst (λ ds. AllByRecursion HasRoom ds) c.in-Some.ensures.steps.0 c.loop-due.invariant.room).0

pub push_reserved-requires : goal.push_reserved-requires
push_reserved-requires g c =
    let len = ap length c.in-Some.ensures.steps.0 in
    let now = c.loop-due.answers.ok.0 in
    omega (arith, len, now, c.loop-due.invariant.space)

pub loop-due-preserved : goal.loop-due-preserved
loop-due-preserved g c =
    let shown = pending_shown in
    let place = c.loop-due.self.spaces.place in
    let store = c.loop-due.self.frames.frames in
    let one = c.in-Some.due in
    let rest = c.next.new.self.rest.items in
    let step = c.in-Some.ensures.steps.0 in
    let there = ap (λ (x : Flight). x.frames.frames) c.access-answer.ensures.run in
    let after = c.access-answer.new.self.frames.frames in
    let as_before = sym (ap (λ (x : Flight). x.spaces.place) c.access-answer.ensures.run) in
    let before = map answer_shown c.loop-due.answers.items in
    let can = subst (λ ds. AllByRecursion (CanDo place store) (map shown ds)) step c.loop-due.invariant.due in
    let len = ap length step in
    let more = ap length c.push_reserved.ensures.items ∙ length-append c.loop-due.answers.items _ in
    record {
      due = subst (λ p. AllByRecursion (CanDo p after) (map shown rest)) as_before
          (subst (λ (s : Store). AllByRecursion (CanDo place s) (map shown rest)) (sym there) (all_can_then place store (shown one) (map shown rest) can.0 can.1));
      room = (subst (λ ds. AllByRecursion HasRoom ds) step c.loop-due.invariant.room).1;
      run =
          (λ i. with_store (c.access-answer.ensures.run i) (all_stored_after_copy (c.access-answer.ensures.run i).spaces.place (c.access-answer.ensures.run i).frames.frames (map shown rest)).store)
          ∙ ap (λ ds. with_store c.loop-due.self (all_stored_after_copy place store (map shown ds)).store) (sym step) ∙ c.loop-due.invariant.run;
      answers =
          ap (λ p. map answer_shown c.push_reserved.new.self.items ++ (all_stored_after_copy p after (map shown rest)).answers) (sym as_before)
          ∙ ap (λ xs. map answer_shown xs ++ (all_stored_after_copy place after (map shown rest)).answers) c.push_reserved.ensures.items
          ∙ ap (λ xs. xs ++ (all_stored_after_copy place after (map shown rest)).answers) (map-append answer_shown c.loop-due.answers.items _)
          ∙ append_assoc before _ _
          ∙ ap (λ (a : AccessAnswer). before ++ a ∷ (all_stored_after_copy place after (map shown rest)).answers) c.access-answer.ensures.answer
          ∙ ap (λ (s : Store). before ++ answer_from_store place store (shown one) ∷ (all_stored_after_copy place s (map shown rest)).answers) there
          ∙ ap (λ ds. before ++ (all_stored_after_copy place store (map shown ds)).answers) (sym step)
          ∙ c.loop-due.invariant.answers;
      space = omega (arith, len, more, c.push_reserved.ensures.capacity, c.loop-due.invariant.space);
    }

no_items : {A : Type 0} (xs : List A) → length xs ≡ 0 → xs ≡ []
no_items [] none = refl
no_items (x ∷ xs) none = absurd (omega (arith, none))

pub returns : goal.returns
returns g c =
    let ends = no_items c.loop-due.due-iterator.rest.items (sym c.loop-due.due-iterator.rest.ok.0 ∙ c.in-None.ensures.steps.0) in
    let before = map (answer_shown {A = g.row.A.Denot}) c.loop-due.answers.items in
    let place = c.loop-due.self.spaces.place in
    let store = c.loop-due.self.frames.frames in
    record {
      done = record {
        run = ap (λ ds. with_store c.loop-due.self (all_stored_after_copy place store (map pending_shown ds)).store) (sym ends) ∙ c.loop-due.invariant.run;
        answers =
            sym (append-nil before)
            ∙ ap (λ ds. before ++ (all_stored_after_copy place store (map pending_shown ds)).answers) (sym ends) ∙ c.loop-due.invariant.answers;
      };
    }
