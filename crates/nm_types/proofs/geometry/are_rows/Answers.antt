use Rattle.std.proofs.Common.{◌≡◌, ℕ, ◌+◌, ◌<◌, Bool, List, length, get_or, map, drop, true, false, sym, ap, ◌∙◌}
use Rattle.std.specs.Prelude.{◌&&◌}
use Rattle.std.proofs.lemmas.List.{at_drop_more, at_drop_all}
use Rattle.nm_types.specs.Layout.{is_row, are_rows}
use Rattle.nm_types.proofs.geometry.are_rows.Goals as goal

-- the rows from one on are this row and those after it
module _ {R : Type 0} (items : R → List ℕ) (count own : ℕ) (rows : List R) (row : R) (distances : List ℕ) (answer : Bool)
    (lt : own < length rows) (is : row ≡ get_or rows own row) (value : distances ≡ items row) (told : answer ≡ is_row count own distances) where
  rows-step : are_rows count own (map items (drop own rows)) ≡ (answer && are_rows count (own + 1) (map items (drop (own + 1) rows)))
  rows-step =
      at_drop_more (λ rs. are_rows count own (map items rs)) rows own row lt
      ∙ ap (λ b. b && are_rows count (own + 1) (map items (drop (own + 1) rows))) (ap (λ r. is_row count own (items r)) (sym is) ∙ sym (told ∙ ap (is_row count own) value))

  rows-not : answer ≡ false → are_rows count own (map items (drop own rows)) ≡ false
  rows-not e = rows-step ∙ ap (λ b. b && are_rows count (own + 1) (map items (drop (own + 1) rows))) e

  rows-on : answer ≡ true → are_rows count own (map items (drop own rows)) ≡ are_rows count (own + 1) (map items (drop (own + 1) rows))
  rows-on e = rows-step ∙ ap (λ b. b && are_rows count (own + 1) (map items (drop (own + 1) rows))) e

pub returns-then-not-is_row : goal.returns-then-not-is_row
returns-then-not-is_row g c =
    sym (rows-not (λ row. row.items) c.args.count c.loop-own.own c.args.rows.now c.index-rows-own.result c.as_slice.result.now c.is_row.result
    c.loop-own-test.true c.index-rows-own.is c.as_slice.ensures.value c.is_row.ensures c.if-not-is_row.true) ∙ c.loop-own.invariant

pub loop-own-preserved : goal.loop-own-preserved
loop-own-preserved g c =
    sym (rows-on (λ row. row.items) c.args.count c.loop-own.own c.args.rows.now c.index-rows-own.result c.as_slice.result.now c.is_row.result
    c.loop-own-test.true c.index-rows-own.is c.as_slice.ensures.value c.is_row.ensures c.if-not-is_row.false) ∙ c.loop-own.invariant

pub returns : goal.returns
returns g c = sym (at_drop_all (λ rows. are_rows c.args.count c.loop-own.own (map (λ row. row.items) rows)) c.args.rows.now c.loop-own.own c.loop-own-test.false) ∙ c.loop-own.invariant
