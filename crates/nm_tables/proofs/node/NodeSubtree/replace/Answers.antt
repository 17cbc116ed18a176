use Rattle.std.proofs.Common.{◌≡◌, ◌/◌, sym, ap, subst, ◌∙◌}
use Rattle.std.specs.Prelude.{IsSome}
use Rattle.std.specs.List.{AllByRecursion}
use Rattle.std.specs.Map.{keys_of}
use Rattle.std.specs.Ordering.{nat_cmp}
use Rattle.nm_types.proofs.Cases.{none_is_not}
use Rattle.nm_types.proofs.Keys.{keys-replace}
use Rattle.nm_tables.specs.definitions.Tree.{flatten}
use Rattle.nm_tables.specs.definitions.Nodes.{slots_shown, IsNode}
use Rattle.nm_tables.specs.declared.slot.Slot.{Slot}
use Rattle.nm_tables.proofs.Changed.{replace_some}
use Rattle.nm_tables.proofs.Nodes as node
use Rattle.nm_tables.proofs.Parts.{IsPartAt, part_at, absent_at}
use Rattle.nm_tables.proofs.node.NodeSubtree.replace.Given.{Over}
use Rattle.nm_tables.proofs.node.NodeSubtree.replace.Goals.{After-index_mut}
use Rattle.nm_tables.proofs.node.NodeSubtree.replace.Goals as goal

-- the part with the block's number
its_part : (g : Over) (c : After-index_mut g) → IsPartAt c.args.self.now.parts.items (g.T.Subtree.number c.args.block) c.in-Ok.place c.index_mut.result.now
its_part g c = part_at c.args.self.now.parts.items c.as_slice.result.now (g.T.Subtree.number c.args.block) c.number_of.result c.in-Ok.place c.as_slice.ensures.value c.number_of.ensures c.index_mut.result.now c.requires.kept.0.0 c.in-Ok.ensures.found c.index_mut.ensures.value

pub unreachable-requires : goal.unreachable-requires
unreachable-requires g c =
    let parts = c.args.self.now.parts.items in
    let none = absent_at parts c.as_slice.result.now (g.T.Subtree.number c.args.block) c.number_of.result c.in_default.field-0 c.as_slice.ensures.value c.number_of.ensures c.in_default.ensures.fits in
    none_is_not Slot (subst IsSome (node.node-get_none g.T.Subtree.slots g.T.Subtree.number g.T.Subtree.whole g.T.Subtree.is_in g.met.T.Subtree.parted g.met.T.Subtree.upwards parts c.requires.kept.0 c.args.block none) c.requires.there)

pub replace-requires-clause-there : goal.replace-requires-clause-there
replace-requires-clause-there g c =
    let parts = c.args.self.now.parts.items in
    let part = its_part g (goal.at.replace-requires-clause-there g c).After-index_mut in
    subst IsSome (node.node-get g.T.Subtree.slots g.T.Subtree.number g.T.Subtree.whole g.T.Subtree.is_in g.met.T.Subtree.parted g.met.T.Subtree.upwards parts c.requires.kept.0 c.args.block c.index_mut.result.now.1 part.found) c.requires.there

pub returns-clause-slot : goal.returns-clause-slot
returns-clause-slot g c =
    let parts = c.args.self.now.parts.items in
    let part = its_part g (goal.at.returns-clause-slot g c).After-index_mut in
    ap (λ ps. flatten (slots_shown g.T.Subtree.slots ps)) (part.written c.replace.new.self)
    ∙ node.node-replace g.T.Subtree.slots g.T.Subtree.number g.T.Subtree.whole g.T.Subtree.is_in g.met.T.Subtree.parted g.met.T.Subtree.upwards parts c.requires.kept.0 c.args.block c.index_mut.result.now.1 c.replace.new.self part.found c.args.slot c.replace.ensures.slot c.requires.there

pub returns-clause-kept : goal.returns-clause-kept
returns-clause-kept g c =
    let parts = c.args.self.now.parts.items in
    let part = its_part g (goal.at.returns-clause-kept g c).After-index_mut in
    let own = node.found g.T.Subtree.slots g.T.Subtree.number g.T.Subtree.whole g.T.Subtree.is_in g.met.T.Subtree.parted g.met.T.Subtree.upwards parts c.requires.kept.0 (g.T.Subtree.number c.args.block) c.index_mut.result.now.1 part.found in (
      subst (IsNode g.T.Subtree.whole g.T.Subtree.is_in) (sym (part.written c.replace.new.self))
          (node.node-kept g.T.Subtree.slots g.T.Subtree.number g.T.Subtree.whole g.T.Subtree.is_in g.met.T.Subtree.parted g.met.T.Subtree.upwards parts c.requires.kept.0 (g.T.Subtree.number c.args.block) c.replace.new.self c.replace.ensures.kept (c.replace.ensures.inside (g.T.Subtree.number c.args.block) own.1)),
      λ none. replace_some parts (g.T.Subtree.number c.args.block) c.replace.new.self c.requires.kept.1 (sym (part.written c.replace.new.self) ∙ none),
    )

pub returns-clause-inside : goal.returns-clause-inside
returns-clause-inside g c i all =
    let parts = c.args.self.now.parts.items in
    let part = its_part g (goal.at.returns-clause-inside g c).After-index_mut in
    subst (λ ks. AllByRecursion (λ k. k / 512 ≡ i) ks) (sym (ap keys_of (part.written c.replace.new.self) ∙ keys-replace nat_cmp parts (g.T.Subtree.number c.args.block) c.replace.new.self)) all
