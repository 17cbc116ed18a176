use Rattle.std.proofs.Common.{◌≡◌, ℕ, suc, ◌+◌, Bool, true, false, not, cond, List, [], ◌∷◌, ◌++◌, length, drop, Some, None, IsTrue, refl, sym, ap, ◌∙◌, append_assoc, append-nil, ◌==◌, arith, rules, tests}
use Rattle.std.specs.Prelude.{slice_get}
use Rattle.std.specs.List.{filter}
use Rattle.std.proofs.lemmas.Bool.{false≢true}
use Rattle.std.proofs.lemmas.List.Elements.{filter-append}
use Rattle.std.proofs.lemmas.Result.{IfOk-from_err}
use Rattle.nm_policy.specs.declared.pairing.Pair.{Pair}
use Rattle.nm_model.specs.definitions.Order.{turn}
use Rattle.nm_policy.specs.definitions.Pairs.{pairs_from_turn, stays, pairs_that_move}
use Rattle.nm_policy.proofs.pairing.moving.Goals.{then-not-stays+in_ok-push, else-not-stays}
use Rattle.nm_policy.proofs.pairing.moving.Goals as goal

-- the pairs of a list that move
abbrev movers : List ℕ → List ℕ → List Pair → List Pair
movers old new ps = filter (λ p. not (stays old new p)) ps

dealt_first : (rest next new : List ℕ) (k from to : ℕ) → Some from ≡ slice_get rest 0 → next ≡ drop 1 rest → to ≡ turn new k → record { from = from; to = to } ∷ pairs_from_turn (k + 1) next new ≡ pairs_from_turn k rest new
dealt_first [] next new k from to e d t = absurd (cc)
dealt_first (x ∷ xs) next new k from to e d t =
    let f : from ≡ x = cc in
    ap (λ (z : ℕ). record { from = z; to = to } ∷ pairs_from_turn (k + 1) next new) f
    ∙ (ap (λ (z : ℕ). record { from = x; to = z } ∷ pairs_from_turn (k + 1) next new) t ∙ ap (λ (z : List ℕ). record { from = x; to = turn new k } ∷ pairs_from_turn (k + 1) z new) d)

one_less : (rest next : List ℕ) (from : ℕ) → Some from ≡ slice_get rest 0 → next ≡ drop 1 rest → length rest ≡ suc (length next)
one_less [] next from e d = absurd (cc)
one_less (x ∷ xs) next from e d = ap (λ (l : List ℕ). suc (length l)) (sym d)

one_more : (old new rest next : List ℕ) (k : ℕ) (y : Pair) (ps ns all : List Pair) → y ∷ pairs_from_turn (k + 1) next new ≡ pairs_from_turn k rest new → ps ++ movers old new (pairs_from_turn k rest new) ≡ all → ns ≡ ps ++ movers old new (y ∷ [])
    → ns ++ movers old new (pairs_from_turn (k + 1) next new) ≡ all
one_more old new rest next k y ps ns all same made now =
    ap (λ l. l ++ movers old new (pairs_from_turn (k + 1) next new)) now ∙ (append_assoc ps (movers old new (y ∷ [])) (movers old new (pairs_from_turn (k + 1) next new))
    ∙ (ap (λ l. ps ++ l) (sym (filter-append (λ p. not (stays old new p)) (y ∷ []) (pairs_from_turn (k + 1) next new)) ∙ ap (movers old new) same) ∙ made))

with_it : (old new : List ℕ) (y : Pair) (b : Bool) → b ≡ stays old new y → b ≡ false → y ∷ [] ≡ movers old new (y ∷ [])
with_it old new y b e f = ap (λ (z : Bool). cond (not z) (y ∷ []) []) (sym f ∙ e)

without_it : (old new : List ℕ) (y : Pair) (b : Bool) → b ≡ stays old new y → b ≡ true → [] ≡ movers old new (y ∷ [])
without_it old new y b e f = ap (λ (z : Bool). cond (not z) (y ∷ []) []) (sym f ∙ e)

all_made : (old new rest : List ℕ) (k : ℕ) (b : Bool) (ps : List Pair) → None ≡ slice_get rest 0 → (new ≡ [] → IsTrue b) → b ≡ false → ps ++ movers old new (pairs_from_turn k rest new) ≡ movers old new (pairs_from_turn 0 old new) → ps ≡ pairs_that_move old new
all_made old [] rest k b ps e h f made = absurd (false≢true (sym f ∙ h refl))
all_made old (m ∷ new) [] k b ps e h f made =
    let some : (length (m ∷ new) == 0) ≡ false = search (rules, tests) in
    sym (append-nil ps) ∙ (made ∙ ap (λ (z : Bool). cond z [] (movers old (m ∷ new) (pairs_from_turn 0 old (m ∷ new)))) (sym some))
all_made old (m ∷ new) (x ∷ rest) k b ps e h f made = absurd (cc)

pub returns-in_err-pairs-clause-value : goal.returns-in_err-pairs-clause-value
returns-in_err-pairs-clause-value g c = IfOk-from_err _ _ c.from_residual.ensures.0

pub returns-then-is_empty-clause-value : goal.returns-then-is_empty-clause-value
returns-then-is_empty-clause-value g c = c.in_ok-pairs.ensures.items ∙ ap (λ n. pairs_that_move c.args.old n) (sym (c.is_empty.ensures.0 c.if-is_empty.true))

pub loop-from-init : goal.loop-from-init
loop-from-init g c = record { counted = omega arith; made = ap (λ l. l ++ movers c.args.old c.args.new (pairs_from_turn 0 c.args.old c.args.new)) c.in_ok-pairs.ensures.items }

pub returns-in_err-push-clause-value : goal.returns-in_err-push-clause-value
returns-in_err-push-clause-value g c = IfOk-from_err _ _ c.from_residual-in_err-push.ensures.0

pub loop-from-smaller : goal.loop-from-smaller
loop-from-smaller g c = omega (arith, one_less c.loop-from.rest c.take_first.new.self c.in-Some.from c.in-Some.ensures.first c.in-Some.ensures.rest)

pub loop-from-preserved : goal.loop-from-preserved
loop-from-preserved g c =
    let old = c.args.old in let new = c.args.new in
    let rest = c.loop-from.rest in let next = c.take_first.new.self in
    let y : Pair = record { from = c.in-Some.from; to = c.turn-to.result } in
    let ps = c.loop-from.pairs.items in record {
      counted = omega (arith, c.loop-from.invariant.counted, one_less rest next c.in-Some.from c.in-Some.ensures.first c.in-Some.ensures.rest);
      made = one_more old new rest next c.loop-from.index y ps c.if-not-stays.pairs.items _
          (dealt_first rest next new c.loop-from.index c.in-Some.from c.turn-to.result c.in-Some.ensures.first c.in-Some.ensures.rest c.turn-to.ensures) c.loop-from.invariant.made
          (elim c.if-not-stays.branch [
            | then-not-stays+in_ok-push w ↦ ap (λ v. v.items) w.pairs-is ∙ (w.in_ok-push.ensures.items ∙ ap (λ l. ps ++ l) (with_it old new y c.stays.result c.stays.ensures w.if-not-stays.true))
            | else-not-stays w ↦ ap (λ v. v.items) w.pairs-is ∙ (sym (append-nil ps) ∙ ap (λ l. ps ++ l) (without_it old new y c.stays.result c.stays.ensures w.if-not-stays.false))
          ]);
    }

pub returns-clause-value : goal.returns-clause-value
returns-clause-value g c = all_made c.args.old c.args.new c.loop-from.rest c.loop-from.index c.is_empty.result c.loop-from.pairs.items c.in_default.ensures.first c.is_empty.ensures.1 c.if-is_empty.false c.loop-from.invariant.made
