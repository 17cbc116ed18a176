use Rattle.std.proofs.Common.{◌≡◌, ◌++◌, ◌∷◌, [], List, length, min, ◌∙◌, refl, sym, ap, subst, append-nil, arith, take, drop, ◌+◌}
use Rattle.std.proofs.lemmas.List.{length-take, length-drop, take-map, drop-map, at_drop_all}
use Rattle.nm_policy.specs.declared.targets.Destination.{Destination}
use Rattle.nm_runs.specs.Stretches.{stretches_of}
use Rattle.nm_model.specs.definitions.Cut.{Request, cut_within, IsFirst}
use Rattle.nm_runs.proofs.Pieces.{one_more}
use Rattle.nm_passes.specs.definitions.Placement.{each_to}
use Rattle.nm_passes.proofs.Policies.SentPages.{request, sent_length}
use Rattle.nm_passes.proofs.turns.cut_sent.Goals as goal

pub loop-at-preserved : goal.loop-at-preserved
loop-at-preserved g c =
    let ran = c.in_ok-run.ensures in
    let run = c.in_ok-run.run' in
    let at = c.loop-at.at in
    let room = c.min-room.result in
    let sent = c.args.sent.now in
    let behind = c.split_at.result.1.now in
    let asks = request c.args.pid c.args.all in
    let es = each_to c.args.pid c.args.all sent in
    let rest = drop at es in
    let left = length-drop at sent in
    let left_all = length-drop at es in
    let all = sent_length c.args.pid c.args.all sent in
    let back = ap length c.split_at.ensures.back in
    let as_long : length behind ≡ length rest = omega (arith, left, left_all, all, back) in
    let taken = length-take room behind in
    let taken_all = length-take room rest in
    let same : each_to c.args.pid c.args.all (take room behind) ≡ take room rest =
    ap (λ (ps : List Destination). each_to c.args.pid c.args.all (take room ps)) c.split_at.ensures.back
    ∙ sym (take-map asks room (drop at sent))
    ∙ sym (ap (take room) (drop-map asks at sent)) in
    let first = subst (λ (l : List Request). IsFirst l run.target run.wanted.items) same ran.first in
    record {
      within = omega (arith, ran.within, left, taken, back, c.len-at.ensures, run.wanted.ok.0);
      made =
          ap (λ items. stretches_of items ++ cut_within c.args.limit (drop (at + c.len-at.result) es)) c.in_ok-push.ensures.items
          ∙ ap (λ n. stretches_of (c.loop-at.runs.items ++ run ∷ []) ++ cut_within c.args.limit (drop (at + n) es)) (c.len-at.ensures ∙ run.wanted.ok.0)
          ∙ one_more c.args.limit c.loop-at.runs.items run es rest at room c.requires refl (c.min-room.ensures ∙ ap (λ n. min n c.args.limit) as_long) ran.some
          (omega (arith, ran.within, taken, taken_all, as_long)) first c.loop-at.invariant.made;
    }

pub loop-at-init : goal.loop-at-init
loop-at-init g c = record {
  within = omega arith;
  made = ap (λ items. stretches_of items ++ cut_within c.args.limit (each_to c.args.pid c.args.all c.args.sent.now)) c.new-runs.ensures.items;
}

pub slice_bounds-first_run-end : goal.slice_bounds-first_run-end
slice_bounds-first_run-end g c = omega (arith, length-take c.min-room.result c.split_at.result.1.now, c.min-room.ensures)

pub first_run-requires : goal.first_run-requires
first_run-requires g c =
    let left = length-drop c.loop-at.at c.args.sent.now in
    let taken = length-take c.min-room.result c.split_at.result.1.now in
    omega (arith, left, taken, ap length c.split_at.ensures.back, c.min-room.ensures, c.requires, c.loop-at-test.true)

pub overflow_add-at : goal.overflow_add-at
overflow_add-at g c =
    let left = length-drop c.loop-at.at c.args.sent.now in
    let taken = length-take c.min-room.result c.split_at.result.1.now in
    omega (arith, c.in_ok-run.ensures.within, left, taken, ap length c.split_at.ensures.back, c.len-at.ensures, c.in_ok-run.run'.wanted.ok.0)

pub loop-at-smaller : goal.loop-at-smaller
loop-at-smaller g c = omega (arith, c.in_ok-run.ensures.some, c.len-at.ensures, c.in_ok-run.run'.wanted.ok.0, c.loop-at-test.true)

pub returns-clause-runs : goal.returns-clause-runs
returns-clause-runs g c =
    let made = stretches_of c.loop-at.runs.items in
    let es = each_to c.args.pid c.args.all c.args.sent.now in
    let none = at_drop_all (cut_within c.args.limit) es c.loop-at.at (omega (arith, c.loop-at-test.false, sent_length c.args.pid c.args.all c.args.sent.now)) in
    sym (append-nil made) ∙ ap (λ rest. made ++ rest) (sym none) ∙ c.loop-at.invariant.made
