use Rattle.std.proofs.Common.{◌≡◌, ◌≤◌, ◌<◌, ◌||◌, ℕ, Bool, false, List, [], ◌∷◌, refl, sym, ap, ◌∙◌, arith}
use Rattle.std.specs.Prelude.{Some, None, nat_le, drop}
use Rattle.std.specs.List.{list_any, slice_get}
use Rattle.std.proofs.lemmas.Bool.{le-leb, lt-leb}
use Rattle.nm_types.proofs.Cases.{none_some, some_none}
use Rattle.nm_types.proofs.mask.NodeMask.has_beyond.Goals as goal

any_front : (p : ℕ → Bool) (xs : List ℕ) (x : ℕ) → slice_get xs 0 ≡ Some x → list_any p xs ≡ (p x || list_any p (drop 1 xs))
any_front p [] x h = absurd (none_some h)
any_front p (y ∷ ys) x h = let same : y ≡ x = cc in ap (λ z. p z || list_any p ys) same

any_none : (p : ℕ → Bool) (xs : List ℕ) → slice_get xs 0 ≡ None → list_any p xs ≡ false
any_none p [] h = refl
any_none p (y ∷ ys) h = absurd (some_none h)

pub loop-node-preserved : goal.loop-node-preserved
loop-node-preserved c =
    let test = nat_le c.args.count in
    let kept : list_any test c.loop-node.rest ≡ list_any test c.args.self = c.loop-node.invariant in
    let low : c.in-Some.node < c.args.count = omega (arith, c.if-index-count.false, c.index.ensures) in
    ap (list_any test) c.take_first.ensures.rest
    ∙ sym (any_front test c.loop-node.rest c.in-Some.node (sym c.take_first.ensures.first ∙ c.in-Some.is) ∙ ap (λ t. t || list_any test (drop 1 c.loop-node.rest)) (lt-leb c.args.count c.in-Some.node low))
    ∙ kept

pub returns-then-index-count : goal.returns-then-index-count
returns-then-index-count c =
    let test = nat_le c.args.count in
    let kept : list_any test c.loop-node.rest ≡ list_any test c.args.self = c.loop-node.invariant in
    let high : c.args.count ≤ c.in-Some.node = omega (arith, c.if-index-count.true, c.index.ensures) in
    sym (sym kept ∙ any_front test c.loop-node.rest c.in-Some.node (sym c.take_first.ensures.first ∙ c.in-Some.is) ∙ ap (λ t. t || list_any test (drop 1 c.loop-node.rest)) (le-leb c.args.count c.in-Some.node high))

pub returns : goal.returns
returns c =
    let test = nat_le c.args.count in
    let kept : list_any test c.loop-node.rest ≡ list_any test c.args.self = c.loop-node.invariant in
    sym (sym kept ∙ any_none test c.loop-node.rest (sym c.take_first.ensures.first ∙ c.in_default.is))
