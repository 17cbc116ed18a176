use Rattle.std.proofs.Common.{◌≡◌, ◌-◌, ◌+◌, ◌∷◌, drop, take, length, sym, ap, subst, ◌∙◌, arith, take_all, length-drop}
use Rattle.std.proofs.lemmas.List.{drop_more}
use Rattle.std.specs.Ordering.{nat_cmp}
use Rattle.std.specs.declared.ops.Bound.TheVariants.{Included, Unbounded}
use Rattle.std.specs.BTreeMap.Range.{entries_between}
use Rattle.nm_types.specs.Map.{get}
use Rattle.nm_tables.specs.definitions.Tree.{flatten}
use Rattle.nm_tables.specs.definitions.Nodes.{slots_shown, IsNode}
use Rattle.nm_tables.specs.definitions.Parts.{BeginsAt}
use Rattle.nm_tables.proofs.Parts.{between_is}
use Rattle.nm_tables.proofs.Walks as walk
use Rattle.nm_tables.proofs.node.NodeSubtree.first_from.Goals as goal

pub loop-part-init : goal.loop-part-init
loop-part-init g c =
    let parts = c.args.self.now.parts.items in
    let from = c.place_from-from.result in
    let xs = c.deref.result.now in
    let begins : BeginsAt parts (g.T.Subtree.number c.args.at) from =
    subst (λ q. BeginsAt parts q from) c.number_of.ensures (subst (λ s. BeginsAt s c.number_of.result from) c.as_slice.ensures.value c.place_from-from.ensures) in
    let left : take (length xs - from) (drop from xs) ≡ drop from parts = take_all (length xs - from) (drop from xs) (omega (arith, length-drop from xs)) ∙ ap (drop from) c.deref.ensures.value in
    let all : entries_between nat_cmp (Included (g.T.Subtree.number c.args.at)) Unbounded parts ≡ take (length xs - from) (drop from xs) =
    between_is parts from (g.T.Subtree.number c.args.at) begins ∙ sym left in
    record {
      kept = subst (IsNode g.T.Subtree.whole g.T.Subtree.is_in) all
          (walk.node-range g.T.Subtree.slots g.T.Subtree.number g.T.Subtree.whole g.T.Subtree.is_in g.met.T.Subtree.parted g.met.T.Subtree.upwards (g.T.Subtree.number c.args.at) parts c.requires.kept.0);
      same = λ v low.
          walk.walk-start g.T.Subtree.slots g.T.Subtree.number g.T.Subtree.whole g.T.Subtree.is_in g.met.T.Subtree.parted g.met.T.Subtree.upwards c.args.at parts c.requires.kept.0 v low
          ∙ ap (λ ps. get nat_cmp (flatten (slots_shown g.T.Subtree.slots ps)) v) all;
    }

pub returns-in-Some-clause-some : goal.returns-in-Some-clause-some
returns-in-Some-clause-some g c =
    let l = c.loop-part in
    let xs = take (length c.deref.result.now - c.place_from-from.result) (drop c.place_from-from.result c.deref.result.now) in
    let e = c.loop-part-item.result in
    let here : drop l.part-index xs ≡ e ∷ drop (l.part-index + 1) xs = drop_more xs l.part-index e (omega arith) ∙ ap (λ d. d ∷ drop (l.part-index + 1) xs) (sym c.loop-part-item.is) in
    let some = c.in-Some.ensures.some in (
      some.0,
      l.invariant.same c.in-Some.found.0 some.0
          ∙ ap (λ ps. get nat_cmp (flatten (slots_shown g.T.Subtree.slots ps)) c.in-Some.found.0) here
          ∙ walk.walk-some g.T.Subtree.slots g.T.Subtree.number g.T.Subtree.whole g.T.Subtree.is_in g.met.T.Subtree.parted g.met.T.Subtree.upwards e (drop (l.part-index + 1) xs) c.in-Some.found.0 c.in-Some.found.1 some.1,
    )

pub returns-in-Some-clause-first : goal.returns-in-Some-clause-first
returns-in-Some-clause-first g c v low high =
    let l = c.loop-part in
    let xs = take (length c.deref.result.now - c.place_from-from.result) (drop c.place_from-from.result c.deref.result.now) in
    let e = c.loop-part-item.result in
    let here : drop l.part-index xs ≡ e ∷ drop (l.part-index + 1) xs = drop_more xs l.part-index e (omega arith) ∙ ap (λ d. d ∷ drop (l.part-index + 1) xs) (sym c.loop-part-item.is) in
    l.invariant.same v low
    ∙ ap (λ ps. get nat_cmp (flatten (slots_shown g.T.Subtree.slots ps)) v) here
    ∙ walk.walk-before g.T.Subtree.slots g.T.Subtree.number g.T.Subtree.whole g.T.Subtree.is_in g.met.T.Subtree.parted g.met.T.Subtree.upwards e (drop (l.part-index + 1) xs)
    (subst (IsNode g.T.Subtree.whole g.T.Subtree.is_in) here l.invariant.kept)
    c.in-Some.found.0 c.in-Some.found.1 c.in-Some.ensures.some.1 v high (c.in-Some.ensures.first v low high)

pub loop-part-preserved : goal.loop-part-preserved
loop-part-preserved g c =
    let l = c.loop-part in
    let xs = take (length c.deref.result.now - c.place_from-from.result) (drop c.place_from-from.result c.deref.result.now) in
    let e = c.loop-part-item.result in
    let here : drop l.part-index xs ≡ e ∷ drop (l.part-index + 1) xs = drop_more xs l.part-index e (omega arith) ∙ ap (λ d. d ∷ drop (l.part-index + 1) xs) (sym c.loop-part-item.is) in
    record {
      kept = walk.node-tail g.T.Subtree.slots g.T.Subtree.number g.T.Subtree.whole g.T.Subtree.is_in g.met.T.Subtree.parted g.met.T.Subtree.upwards e (drop (l.part-index + 1) xs) (subst (IsNode g.T.Subtree.whole g.T.Subtree.is_in) here l.invariant.kept);
      same = λ v low.
          l.invariant.same v low
          ∙ ap (λ ps. get nat_cmp (flatten (slots_shown g.T.Subtree.slots ps)) v) here
          ∙ walk.walk-on g.T.Subtree.slots g.T.Subtree.number g.T.Subtree.whole g.T.Subtree.is_in g.met.T.Subtree.parted g.met.T.Subtree.upwards e (drop (l.part-index + 1) xs) v (c.in_default.ensures.none v low);
    }
