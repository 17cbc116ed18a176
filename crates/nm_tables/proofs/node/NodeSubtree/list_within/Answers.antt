use Rattle.std.proofs.Common.{◌≡◌, ◌-◌, ◌+◌, ◌/◌, ◌<◌, ◌∷◌, ◌++◌, List, ℕ, drop, take, length, sym, ap, subst, ◌∙◌, arith, take_all, length-drop}
use Rattle.nm_tables.specs.definitions.Tree.{flatten}
use Rattle.nm_tables.specs.definitions.Nodes.{slots_shown, IsNode}
use Rattle.nm_tables.specs.definitions.Parts.{BeginsAt}
use Rattle.nm_tables.specs.views.Blocks.{entries_by, AreBlocks}
use Rattle.nm_tables.proofs.Results.{where_err}
use Rattle.nm_tables.proofs.Within.{within}
use Rattle.nm_tables.proofs.Listed as listed
use Rattle.nm_tables.proofs.node.NodeSubtree.list_within.Given.{Over}
use Rattle.nm_tables.proofs.node.NodeSubtree.list_within.Goals.{After-loop-number-item}
use Rattle.nm_tables.proofs.node.NodeSubtree.list_within.Goals as goal

pub loop-number-init : goal.loop-number-init
loop-number-init g c =
    let t = g.T.Subtree in
    let parts = c.args.self.now.parts.items in
    let leaves = c.args.leaves.now in
    let from = c.place_from-from.result in
    let xs = c.deref.result.now in
    let number = c.number_of.ensures ∙ ap t.number c.block_of.ensures.number in
    let begins : BeginsAt parts (t.number (c.args.first / 512)) from =
    subst (λ q. BeginsAt parts q from) number (subst (λ s. BeginsAt s c.number_of.result from) c.as_slice.ensures.value c.place_from-from.ensures) in
    let left : drop from parts ≡ take (length xs - from) (drop from xs) =
    sym (take_all (length xs - from) (drop from xs) (omega (arith, length-drop from xs)) ∙ ap (drop from) c.deref.ensures.value) in
    record {
      kept = subst (IsNode t.whole t.is_in) left
          (listed.rest_kept t.slots t.number t.whole t.is_in g.met.T.Subtree.parted g.met.T.Subtree.upwards leaves c.args.first c.args.last parts from c.requires.kept.0 c.requires.blocks);
      named = subst (λ ps. AreBlocks leaves (flatten (slots_shown t.slots ps))) left
          (listed.rest_named t.slots t.number t.whole t.is_in g.met.T.Subtree.parted g.met.T.Subtree.upwards leaves c.args.first c.args.last parts from c.requires.kept.0 c.requires.blocks);
      left = ap (λ m. c.args.list.now.items ++ m)
          (ap (λ ps. within c.args.first c.args.last (entries_by leaves (flatten (slots_shown t.slots ps)))) (sym left)
          ∙ listed.rest_there t.slots t.number t.whole t.is_in g.met.T.Subtree.parted g.met.T.Subtree.upwards leaves c.args.first c.args.last parts from c.requires.kept.0 c.requires.blocks begins);
      before = listed.unextended c.args.list.now.items;
    }

-- the parts behind one that is listed
abbrev parts_behind : {X : Type 0} → List X → ℕ → ℕ → List X
parts_behind xs from i = drop (i + 1) (take (length xs - from) (drop from xs))

-- what is left begins with the part of this round
its_part : (g : Over) (c : After-loop-number-item g)
    → let t = g.T.Subtree in
    listed.IsListed t.slots t.number t.whole t.is_in g.met.T.Subtree.parted g.met.T.Subtree.upwards c.args.leaves.now c.args.first c.args.last c.loop-number.list.items
    (c.args.list.now.items ++ within c.args.first c.args.last (entries_by c.args.leaves.now (flatten (slots_shown t.slots c.args.self.now.parts.items))))
    (c.loop-number-item.result ∷ parts_behind c.deref.result.now c.place_from-from.result c.loop-number.number-index)
its_part g c =
    let t = g.T.Subtree in
    let l = c.loop-number in
    listed.first_listed t.slots t.number t.whole t.is_in g.met.T.Subtree.parted g.met.T.Subtree.upwards c.args.leaves.now c.args.first c.args.last l.list.items _
    (take (length c.deref.result.now - c.place_from-from.result) (drop c.place_from-from.result c.deref.result.now)) l.number-index c.loop-number-item.result (omega arith) c.loop-number-item.is
    (record { kept = l.invariant.kept; named = l.invariant.named; left = l.invariant.left })

pub returns-then-end-number-clause-ok : goal.returns-then-end-number-clause-ok
returns-then-end-number-clause-ok g c =
    let t = g.T.Subtree in
    let rest = parts_behind c.deref.result.now c.place_from-from.result c.loop-number.number-index in
    let part = its_part g (goal.at.returns-then-end-number-clause-ok g c).After-loop-number-item in
    let number = c.number_of-end.ensures ∙ ap t.number c.block_of-2.ensures.number in
    listed.list-end t.slots t.number t.whole t.is_in g.met.T.Subtree.parted g.met.T.Subtree.upwards c.args.leaves.now c.args.first c.args.last c.loop-number-item.result rest
    part.kept part.named
    c.loop-number.list.items _ part.left
    (subst (λ n. n < c.loop-number-item.result.0) number c.if-end-number.true)

pub list_within-requires-clause-blocks : goal.list_within-requires-clause-blocks
list_within-requires-clause-blocks g c =
    let t = g.T.Subtree in
    let rest = parts_behind c.deref.result.now c.place_from-from.result c.loop-number.number-index in
    let part = its_part g (goal.at.list_within-requires-clause-blocks g c).After-loop-number-item in
    listed.part_named t.slots t.number t.whole t.is_in g.met.T.Subtree.parted g.met.T.Subtree.upwards c.args.leaves.now c.args.first c.args.last c.loop-number-item.result rest
    part.kept part.named

pub returns-in_err-list_within-clause-before : goal.returns-in_err-list_within-clause-before
returns-in_err-list_within-clause-before g c =
    listed.extended_by c.args.list.now.items c.loop-number.list.items c.list_within.new.list.items c.loop-number.invariant.before c.list_within.ensures.before

pub returns-in_err-list_within-clause-short : goal.returns-in_err-list_within-clause-short
returns-in_err-list_within-clause-short g c =
    let t = g.T.Subtree in
    let rest = parts_behind c.deref.result.now c.place_from-from.result c.loop-number.number-index in
    let part = its_part g (goal.at.returns-in_err-list_within-clause-short g c).After-loop-number-item in
    where_err c.from_residual.result
    (listed.cut_shorter c.list_within.new.list.items _ _ _ c.in_err-list_within.ensures.short
    (listed.list-step t.slots t.number t.whole t.is_in g.met.T.Subtree.parted g.met.T.Subtree.upwards c.args.leaves.now c.args.first c.args.last c.loop-number-item.result rest
    part.kept part.named
    c.loop-number.list.items _ part.left))

pub loop-number-preserved : goal.loop-number-preserved
loop-number-preserved g c =
    let t = g.T.Subtree in
    let rest = parts_behind c.deref.result.now c.place_from-from.result c.loop-number.number-index in
    let part = its_part g (goal.at.loop-number-preserved g c).After-loop-number-item in
    record {
      kept = listed.later_kept t.whole t.is_in c.loop-number-item.result rest part.kept;
      named = listed.later_named t.slots t.number t.whole t.is_in g.met.T.Subtree.parted g.met.T.Subtree.upwards c.args.leaves.now c.args.first c.args.last c.loop-number-item.result rest part.kept part.named;
      left = ap (λ ls. ls ++ within c.args.first c.args.last (entries_by c.args.leaves.now (flatten (slots_shown t.slots rest)))) c.in_ok-list_within.ensures.ok
          ∙ listed.list-step t.slots t.number t.whole t.is_in g.met.T.Subtree.parted g.met.T.Subtree.upwards c.args.leaves.now c.args.first c.args.last c.loop-number-item.result rest part.kept part.named
          c.loop-number.list.items _ part.left;
      before = listed.extended_by c.args.list.now.items c.loop-number.list.items c.list_within.new.list.items c.loop-number.invariant.before c.list_within.ensures.before;
    }
