use Rattle.std.proofs.Common.{◌++◌, ◌∷◌, [], length, ◌∙◌, sym, ap, append-nil, arith, drop, ◌+◌}
use Rattle.std.proofs.lemmas.List.{length-take, length-drop, at_drop_all}
use Rattle.nm_runs.specs.Stretches.{stretches_of}
use Rattle.nm_model.specs.definitions.Cut.{cut_within}
use Rattle.nm_runs.proofs.Pieces.{ends_within, one_more}
use Rattle.nm_runs.proofs.cutting.cut.Goals as goal

pub loop-at-preserved : goal.loop-at-preserved
loop-at-preserved g c =
    let ran = c.in_ok-run.ensures in
    record {
      within = omega (arith, ends_within c.args.requests.now c.split_at.result.1.now c.loop-at.at c.min-room.result _ c.split_at.ensures.back ran.within c.loop-at.invariant.within, c.len-at.ensures, c.in_ok-run.run'.wanted.ok.0);
      made =
          ap (λ items. stretches_of items ++ cut_within c.args.limit (drop (c.loop-at.at + c.len-at.result) c.args.requests.now)) c.in_ok-push.ensures.items
          ∙ ap (λ n. stretches_of (c.loop-at.runs.items ++ c.in_ok-run.run' ∷ []) ++ cut_within c.args.limit (drop (c.loop-at.at + n) c.args.requests.now)) (c.len-at.ensures ∙ c.in_ok-run.run'.wanted.ok.0)
          ∙ one_more c.args.limit c.loop-at.runs.items c.in_ok-run.run' c.args.requests.now c.split_at.result.1.now c.loop-at.at c.min-room.result c.requires c.split_at.ensures.back c.min-room.ensures ran.some ran.within ran.first
          c.loop-at.invariant.made;
    }

pub loop-at-init : goal.loop-at-init
loop-at-init g c = record {
  within = omega arith;
  made = ap (λ items. stretches_of items ++ cut_within c.args.limit c.args.requests.now) c.new-runs.ensures.items;
}

pub slice_bounds-first_run-end : goal.slice_bounds-first_run-end
slice_bounds-first_run-end g c = omega (arith, length-take c.min-room.result c.split_at.result.1.now, c.min-room.ensures)

pub first_run-requires : goal.first_run-requires
first_run-requires g c =
    let left = length-drop c.loop-at.at c.args.requests.now in
    let taken = length-take c.min-room.result c.split_at.result.1.now in
    omega (arith, left, taken, ap length c.split_at.ensures.back, c.min-room.ensures, c.requires, c.loop-at-test.true)

pub overflow_add-at : goal.overflow_add-at
overflow_add-at g c =
    let left = length-drop c.loop-at.at c.args.requests.now in
    let taken = length-take c.min-room.result c.split_at.result.1.now in
    omega (arith, c.in_ok-run.ensures.within, left, taken, ap length c.split_at.ensures.back, c.len-at.ensures, c.in_ok-run.run'.wanted.ok.0)

pub loop-at-smaller : goal.loop-at-smaller
loop-at-smaller g c = omega (arith, c.in_ok-run.ensures.some, c.len-at.ensures, c.in_ok-run.run'.wanted.ok.0, c.loop-at-test.true)

pub returns-clause-runs : goal.returns-clause-runs
returns-clause-runs g c =
    let made = stretches_of c.loop-at.runs.items in
    let none = at_drop_all (cut_within c.args.limit) c.args.requests.now c.loop-at.at c.loop-at-test.false in
    sym (append-nil made) ∙ ap (λ rest. made ++ rest) (sym none) ∙ c.loop-at.invariant.made
