use Rattle.std.proofs.Common.{◌≡◌, ◌/◌, length, eq-eqb, refl, sym, ap, subst, ◌∙◌}
use Rattle.std.specs.Prelude.{IsSome, vec_len}
use Rattle.std.specs.List.{AllByRecursion}
use Rattle.std.specs.Map.{keys_of}
use Rattle.std.specs.Ordering.{nat_cmp}
use Rattle.nm_types.proofs.Cases.{none_is_not, true_false}
use Rattle.nm_types.proofs.Keys.{keys-replace}
use Rattle.nm_tables.specs.definitions.Tree.{flatten}
use Rattle.nm_tables.specs.definitions.Nodes.{slots_shown, IsNode}
use Rattle.nm_tables.specs.declared.slot.Slot.{Slot}
use Rattle.nm_tables.proofs.Changed.{all-without, replace_some}
use Rattle.nm_tables.proofs.Nodes as node
use Rattle.nm_tables.proofs.Parts.{IsPartAt, part_at, absent_at}
use Rattle.nm_tables.proofs.node.NodeSubtree.remove.Given.{Over}
use Rattle.nm_tables.proofs.node.NodeSubtree.remove.Goals.{After-index_mut}
use Rattle.nm_tables.proofs.node.NodeSubtree.remove.Goals as goal

-- the part with the block's number
its_part : (g : Over) (c : After-index_mut g) → IsPartAt c.args.self.now.parts.items (g.T.Subtree.number c.args.block) c.in-Ok.place c.index_mut.result.now
its_part g c = part_at c.args.self.now.parts.items c.as_slice.result.now (g.T.Subtree.number c.args.block) c.number_of.result c.in-Ok.place c.as_slice.ensures.value c.number_of.ensures c.index_mut.result.now c.requires.kept.0.0 c.in-Ok.ensures.found c.index_mut.ensures.value

pub unreachable-requires : goal.unreachable-requires
unreachable-requires g c =
    let parts = c.args.self.now.parts.items in
    let none = absent_at parts c.as_slice.result.now (g.T.Subtree.number c.args.block) c.number_of.result c.in_default.field-0 c.as_slice.ensures.value c.number_of.ensures c.in_default.ensures.fits in
    none_is_not Slot (subst IsSome (node.node-get_none g.T.Subtree.slots g.T.Subtree.number g.T.Subtree.whole g.T.Subtree.is_in g.met.T.Subtree.parted g.met.T.Subtree.upwards parts c.requires.kept.0 c.args.block none) c.requires.there)

pub remove-requires-clause-there : goal.remove-requires-clause-there
remove-requires-clause-there g c =
    let parts = c.args.self.now.parts.items in
    let part = its_part g (goal.at.remove-requires-clause-there g c).After-index_mut in
    subst IsSome (node.node-get g.T.Subtree.slots g.T.Subtree.number g.T.Subtree.whole g.T.Subtree.is_in g.met.T.Subtree.parted g.met.T.Subtree.upwards parts c.requires.kept.0 c.args.block c.index_mut.result.now.1 part.found) c.requires.there

pub returns-then-not-remove-clause-left : goal.returns-then-not-remove-clause-left
returns-then-not-remove-clause-left g c = λ left.
    let parts = c.args.self.now.parts.items in
    let part = its_part g (goal.at.returns-then-not-remove-clause-left g c).After-index_mut in
    ap (λ ps. flatten (slots_shown g.T.Subtree.slots ps)) (part.written c.remove.new.self)
    ∙ node.node-without g.T.Subtree.slots g.T.Subtree.number g.T.Subtree.whole g.T.Subtree.is_in g.met.T.Subtree.parted g.met.T.Subtree.upwards parts c.requires.kept.0 c.args.block c.index_mut.result.now.1 c.remove.new.self part.found (c.if-not-remove.ensures.left refl)

pub returns-then-not-remove-clause-kept : goal.returns-then-not-remove-clause-kept
returns-then-not-remove-clause-kept g c = λ left.
    let parts = c.args.self.now.parts.items in
    let part = its_part g (goal.at.returns-then-not-remove-clause-kept g c).After-index_mut in
    let own = node.found g.T.Subtree.slots g.T.Subtree.number g.T.Subtree.whole g.T.Subtree.is_in g.met.T.Subtree.parted g.met.T.Subtree.upwards parts c.requires.kept.0 (g.T.Subtree.number c.args.block) c.index_mut.result.now.1 part.found in (
      subst (IsNode g.T.Subtree.whole g.T.Subtree.is_in) (sym (part.written c.remove.new.self))
          (node.node-kept g.T.Subtree.slots g.T.Subtree.number g.T.Subtree.whole g.T.Subtree.is_in g.met.T.Subtree.parted g.met.T.Subtree.upwards parts c.requires.kept.0 (g.T.Subtree.number c.args.block) c.remove.new.self (c.if-not-remove.ensures.kept refl) (c.remove.ensures.inside (g.T.Subtree.number c.args.block) own.1)),
      λ none. replace_some parts (g.T.Subtree.number c.args.block) c.remove.new.self c.requires.kept.1 (sym (part.written c.remove.new.self) ∙ none),
    )

pub returns-then-not-remove-clause-inside : goal.returns-then-not-remove-clause-inside
returns-then-not-remove-clause-inside g c i all =
    let parts = c.args.self.now.parts.items in
    let part = its_part g (goal.at.returns-then-not-remove-clause-inside g c).After-index_mut in
    subst (λ ks. AllByRecursion (λ k. k / 512 ≡ i) ks) (sym (ap keys_of (part.written c.remove.new.self) ∙ keys-replace nat_cmp parts (g.T.Subtree.number c.args.block) c.remove.new.self)) all

pub returns-clause-left : goal.returns-clause-left
returns-clause-left g c = λ left.
    let parts = c.args.self.now.parts.items in
    let part = its_part g (goal.at.returns-clause-left g c).After-index_mut in
    let gone = c.remove-2.ensures.items ∙ part.removed c.remove.new.self in
    ap (λ ps. flatten (slots_shown g.T.Subtree.slots ps)) gone
    ∙ node.node-gone g.T.Subtree.slots g.T.Subtree.number g.T.Subtree.whole g.T.Subtree.is_in g.met.T.Subtree.parted g.met.T.Subtree.upwards parts c.requires.kept.0 c.args.block c.index_mut.result.now.1 part.found (c.if-not-remove.ensures.last refl)

pub returns-clause-kept : goal.returns-clause-kept
returns-clause-kept g c = λ left.
    let parts = c.args.self.now.parts.items in
    let part = its_part g (goal.at.returns-clause-kept g c).After-index_mut in
    let gone = c.remove-2.ensures.items ∙ part.removed c.remove.new.self in
    let after = c.remove-2.new.self in (
      subst (IsNode g.T.Subtree.whole g.T.Subtree.is_in) (sym gone)
          (node.node-less g.T.Subtree.slots g.T.Subtree.number g.T.Subtree.whole g.T.Subtree.is_in g.met.T.Subtree.parted g.met.T.Subtree.upwards parts c.requires.kept.0 (g.T.Subtree.number c.args.block)),
      λ none. true_false (sym (eq-eqb (vec_len after) 0 (after.ok.0 ∙ ap length none)) ∙ sym c.is_empty.ensures ∙ left),
    )

pub returns-clause-inside : goal.returns-clause-inside
returns-clause-inside g c i all =
    let parts = c.args.self.now.parts.items in
    let part = its_part g (goal.at.returns-clause-inside g c).After-index_mut in
    let gone = c.remove-2.ensures.items ∙ part.removed c.remove.new.self in
    subst (λ ps. AllByRecursion (λ k. k / 512 ≡ i) (keys_of ps)) (sym gone) (all-without (λ k. k / 512 ≡ i) parts (g.T.Subtree.number c.args.block) all)
