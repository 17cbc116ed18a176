use Rattle.std.proofs.Common.{◌≡◌, ◌++◌, ◌∷◌, [], sym, ap, subst, ◌∙◌}
use Rattle.std.specs.List.Sorted.{IsStrictlySortedBy}
use Rattle.nm_tables.specs.definitions.Nodes.{IsNode}
use Rattle.nm_tables.proofs.Branches.{one_some}
use Rattle.nm_tables.proofs.node.NodeSubtree.holding.Goals as goal

pub returns-clause-kept : goal.returns-clause-kept
unfolding IsStrictlySortedBy
returns-clause-kept g c =
    let part = c.in_ok-part.part in
    let one : c.push.new.self.items ≡ (c.number_of.result, part) ∷ [] = c.in_ok-push.ensures.items ∙ ap (λ ps. ps ++ (c.number_of.result, part) ∷ []) c.new-node.ensures in
    let own = subst (g.T.Subtree.is_in part) (sym c.number_of.ensures) c.in_ok-part.ensures.inside in
    (subst (IsNode g.T.Subtree.whole g.T.Subtree.is_in) (sym one) ((tt, tt), ((c.in_ok-part.ensures.kept, own), tt)), one_some c.push.new.self.items (c.number_of.result, part) one)
