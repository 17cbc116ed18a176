use Rattle.std.proofs.Common.{◌≡◌, ℕ, List, ◌∙◌, ◌++◌, min, length, ap, sym, arith, rules, append-nil, length-append}
use Rattle.std.specs.Slice.Iter.{chunks_rest}
use Rattle.std.proofs.lemmas.List.{nil_from_length}
use Rattle.nm_types.specs.declared.request.Wanted.{Wanted}
use Rattle.nm_model.specs.definitions.Cut.{Stretch, all_to, cut_within}
use Rattle.nm_runs.proofs.Pieces.{one_more_to}
use Rattle.nm_passes.proofs.passes.runs_to.Goals as goal

pub loop-piece-preserved : goal.loop-piece-preserved
loop-piece-preserved g c =
    let limit = c.args.limit in
    let steps = c.in-Some.ensures.steps in
    let size = c.loop-piece.invariant.2 in
    let sum = ap length steps.1.0 ∙ length-append c.in-Some.piece.now (chunks_rest c.next.new.self) in (
      search rules,
      tt,
      steps.0 ∙ size,
      omega (arith, sum, c.loop-piece.invariant.3),
      one_more_to limit _ _ _ _ _ _ c.in_ok-push.ensures.items c.in_ok-wanted.ensures.items c.requires steps.1.2 steps.1.0 (steps.1.1 ∙ ap (λ n. min n (length (chunks_rest c.loop-piece.piece-iterator))) size)
          ∙ c.loop-piece.invariant.4,
    )

none_left : (limit target : ℕ) (made all : List Stretch) (rest : List Wanted) → length rest ≡ 0 → made ++ cut_within limit (all_to target rest) ≡ all → made ≡ all
none_left limit target made all rest none so_far =
    sym (append-nil made) ∙ sym (ap (λ l. made ++ cut_within limit (all_to target l)) (nil_from_length rest none)) ∙ so_far

pub returns-clause-runs : goal.returns-clause-runs
returns-clause-runs g c = none_left c.args.limit c.args.target _ _ _ c.in-None.ensures.steps.1.0 c.loop-piece.invariant.4
