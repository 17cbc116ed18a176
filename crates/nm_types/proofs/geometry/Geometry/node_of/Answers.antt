use Rattle.std.proofs.Common.{◌≡◌, ℕ, suc, ◌+◌, ◌-◌, ◌<◌, ◌≤◌, List, length, get_or, take, drop, sum, refl, ap, ◌∙◌, arith}
use Rattle.std.specs.Prelude.{nat_lt, if◌then◌else◌}
use Rattle.std.proofs.lemmas.List.{at_drop_more, at_drop_all}
use Rattle.std.proofs.lemmas.List.Sums.{sum_by_more, sum_by-drop_more}
use Rattle.std.proofs.lemmas.Bool.{lt-ltb, le-ltb}
use Rattle.nm_types.specs.Layout.{owner}
use Rattle.nm_types.proofs.geometry.Geometry.node_of.Goals as goal

-- one node further, where a frame is the `rest`-th of the nodes from this one on
module _ (items : List ℕ) (node rest : ℕ) (lt : node < length items) where
  owner-step : owner (drop node items) rest ≡ (if nat_lt rest (get_or items node 0) then 0 else suc (owner (drop (node + 1) items) (rest - get_or items node 0)))
  owner-step = at_drop_more (λ xs. owner xs rest) items node 0 lt

  owner-here : rest < get_or items node 0 → owner (drop node items) rest ≡ 0
  owner-here h = owner-step ∙ ap (λ b. if b then 0 else suc (owner (drop (node + 1) items) (rest - get_or items node 0))) (lt-ltb _ _ h)

  owner-later : get_or items node 0 ≤ rest → owner (drop node items) rest ≡ suc (owner (drop (node + 1) items) (rest - get_or items node 0))
  owner-later h = owner-step ∙ ap (λ b. if b then 0 else suc (owner (drop (node + 1) items) (rest - get_or items node 0))) (le-ltb _ _ h)

  sum-more : sum (take (node + 1) items) ≡ sum (take node items) + get_or items node 0
  sum-more = sum_by_more (λ x. x) items node 0 lt

  sum-less : sum (drop node items) ≡ get_or items node 0 + sum (drop (node + 1) items)
  sum-less = sum_by-drop_more (λ x. x) items node 0 lt

pub loop-node-preserved : goal.loop-node-preserved
loop-node-preserved g c =
    let node = c.loop-node.node in
    let items = c.deref-size-items.result.now in
    let later = owner-later items node c.loop-node.rest c.loop-node-test.true c.if-rest-size.false in
    let more = sum-more items node c.loop-node.rest c.loop-node-test.true in
    let less = sum-less items node c.loop-node.rest c.loop-node-test.true in
    rw (← c.loop-node.invariant.same) (record {
      same = refl;
      before = omega (arith, more, rw (← c.loop-node.invariant.same) at c.loop-node.invariant.before);
      owned = omega (arith, later, rw (← c.loop-node.invariant.same) at c.loop-node.invariant.owned);
      later = omega (arith, less, rw (← c.loop-node.invariant.same) at c.loop-node.invariant.later);
    })

pub returns-then-rest-size-clause-node : goal.returns-then-rest-size-clause-node
returns-then-rest-size-clause-node g c =
    let here = owner-here c.deref-size-items.result.now c.loop-node.node c.loop-node.rest c.loop-node-test.true c.if-rest-size.true in
    let owned = rw (← c.loop-node.invariant.same) at c.loop-node.invariant.owned in
    rw (← c.loop-node.invariant.same) (omega (arith, here, owned, c.new.ensures))

pub returns-then-rest-size-clause-stretch : goal.returns-then-rest-size-clause-stretch
returns-then-rest-size-clause-stretch g c =
    let more = sum-more c.deref-size-items.result.now c.loop-node.node c.loop-node.rest c.loop-node-test.true in
    let before = rw (← c.loop-node.invariant.same) at c.loop-node.invariant.before in
    rw (c.new.ensures, ← c.loop-node.invariant.same) (record {
      from = omega (arith, before);
      below = omega (arith, more, before, c.if-rest-size.true);
    })

pub unreachable-requires : goal.unreachable-requires
unreachable-requires g c =
    let none : sum (drop c.loop-node.node c.deref-size-items.result.now) ≡ 0 = at_drop_all sum c.deref-size-items.result.now c.loop-node.node c.loop-node-test.false in
    omega (arith, none, rw (← c.loop-node.invariant.same) at c.loop-node.invariant.later)
