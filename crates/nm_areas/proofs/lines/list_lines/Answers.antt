use Rattle.std.proofs.Common.{◌≡◌, ℕ, ◌<◌, List, length, ◌++◌, ◌∷◌, [], refl, ap, subst, ◌∙◌, arith}
use Rattle.std.specs.Prelude.{Result, Ok, Err, OnErr}
use Rattle.std.proofs.lemmas.List.{length-append}
use Rattle.nm_types.specs.Map.{spot_cmp}
use Rattle.nm_types.proofs.Maps.{spot_cmp_total}
use Rattle.nm_areas.specs.Rests.{IsRest}
use Rattle.nm_model.proofs.areas.Painted.{exact_spot}
use Rattle.nm_areas.proofs.Rests.{rest_begins}
use Rattle.nm_areas.proofs.Own.{lines_from, lines_begin, lines_next, lines_end}
use Rattle.nm_areas.proofs.lines.list_lines.Goals as goal

where_err : {T E P : Type 0} (r : Result T E) → P → OnErr r P
where_err (Ok x) h = tt
where_err (Err e) h = h

some_more : {X : Type 0} (xs : List X) (x : X) (ys all : List X) → (xs ++ x ∷ []) ++ ys ≡ all → 0 < length all
some_more xs x ys all is = omega (arith, ap length is, length-append (xs ++ x ∷ []) ys, length-append xs (x ∷ []))

pub loop-first-init : goal.loop-first-init
loop-first-init g c = record {
  rest = (
    0,
    subst (λ (n : ℕ). IsRest spot_cmp c.args.areas.now.entries (c.args.pid, n) c.range-rest.result) c.new.ensures
        (rest_begins spot_cmp_total (c.args.pid, c.new.result) exact_spot c.args.areas.now.entries c.range-rest.result c.range-rest.ensures.ordered (c.range-rest.ensures.between tt)),
    ap (λ l. l ++ lines_from c.args.segments.now.entries c.args.areas.now.entries c.args.pid 0) c.new-lines.ensures.items ∙ lines_begin c.args.segments.now.entries c.args.areas.now.entries c.args.pid c.requires.whole c.requires.low,
  );
}

pub loop-first-preserved : goal.loop-first-preserved
loop-first-preserved g c =
    let areas = c.args.areas.now.entries in
    let rest = c.loop-first.invariant.rest in
    let some = c.in-Some.ensures.some areas rest.0 rest.1 in
    record {
      rest = (
        _,
        c.in-Some.ensures.rest areas rest.0 rest.1,
        lines_next c.args.segments.now.entries areas c.args.pid c.loop-first.lines.items c.push.new.self.items rest.0 _ _ (omega (arith, some.1, c.new-in-loop-first.ensures)) c.range-rest.ensures.ordered some.0 some.2
            (c.in-Some.ensures.first areas rest.0 rest.1) (c.in_ok-push.ensures.items ∙ ap (λ x. c.loop-first.lines.items ++ x ∷ []) c.line_of.ensures) rest.2,
      );
    }

pub returns-clause-lines : goal.returns-clause-lines
returns-clause-lines g c =
    let areas = c.args.areas.now.entries in
    let rest = c.loop-first.invariant.rest in
    lines_end c.args.segments.now.entries areas c.args.pid c.loop-first.lines.items rest.0
    (λ v low high. c.in_default.ensures.none areas rest.0 rest.1 v low (omega (arith, high, c.new-in-loop-first.ensures))) rest.2

pub returns-in_err-push-clause-allocates : goal.returns-in_err-push-clause-allocates
returns-in_err-push-clause-allocates g c =
    let segments = c.args.segments.now.entries in
    let areas = c.args.areas.now.entries in
    let lines = c.loop-first.lines.items in
    let rest = c.loop-first.invariant.rest in
    let some = c.in-Some.ensures.some areas rest.0 rest.1 in
    let more = lines_next segments areas c.args.pid lines _ rest.0 _ _ (omega (arith, some.1, c.new-in-loop-first.ensures)) c.range-rest.ensures.ordered some.0 some.2 (c.in-Some.ensures.first areas rest.0 rest.1) refl rest.2 in
    where_err c.from_residual.result (some_more lines _ _ _ more)
