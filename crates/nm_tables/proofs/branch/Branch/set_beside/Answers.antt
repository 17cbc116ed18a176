use Rattle.std.proofs.Common.{◌≡◌, ◌++◌, [], ◌∷◌, sym, ap, subst, ◌∙◌}
use Rattle.std.specs.Ordering.{nat_cmp}
use Rattle.nm_types.specs.Map.{set}
use Rattle.nm_tables.specs.definitions.Tree.{flatten}
use Rattle.nm_tables.specs.definitions.Nodes.{slots_shown, IsNode}
use Rattle.nm_tables.specs.views.Branches.{parts_of}
use Rattle.nm_tables.proofs.Changed.{set_some}
use Rattle.nm_tables.proofs.Nodes as node
use Rattle.nm_tables.proofs.Branches.{is_no_other, another, set_behind, set_before, above_it}
use Rattle.nm_tables.proofs.branch.Branch.set_beside.Given.{Over}
use Rattle.nm_tables.proofs.branch.Branch.set_beside.Goals as goal
use Rattle.nm_tables.proofs.branch.Branch.set_beside.Goals.{then-number-own, else-number-own}

pub unreachable-requires : goal.unreachable-requires
unreachable-requires g c = is_no_other c.args.self.now c.requires.one (λ n x is. c.in_default.not-One n x (c.replace.ensures.value ∙ is))

-- the part that was there, by itself
there : (g : Over) (c : goal.Joined-self g) → parts_of c.args.self.now ≡ (c.in-One.number, c.in-One.first) ∷ []
there g c = ap parts_of (sym c.replace.ensures.value ∙ c.in-One.is)

-- both parts, in order
both : (g : Over) (c : goal.Joined-self g) → c.if-number-own.parts.items ≡ set nat_cmp (parts_of c.args.self.now) (g.T.Subtree.number c.args.block) c.in_ok-part.part
both g c =
    let n = c.in-One.number in
    let x = c.in-One.first in
    let q = c.number_of-own.result in
    let y = c.in_ok-part.part in
    let named : set nat_cmp ((n, x) ∷ []) q y ≡ set nat_cmp (parts_of c.args.self.now) (g.T.Subtree.number c.args.block) y =
    ap (λ k. set nat_cmp ((n, x) ∷ []) k y) c.number_of-own.ensures ∙ ap (λ ps. set nat_cmp ps (g.T.Subtree.number c.args.block) y) (sym (there g c)) in
    elim c.if-number-own.branch [
      | then-number-own w ↦
          let first = w.push_reserved.ensures.items ∙ ap (λ ps. ps ++ (n, x) ∷ []) c.in_ok-parts.ensures.items in
          ap (λ v. v.items) w.parts-is ∙ w.push_reserved-then-number-own.ensures.items ∙ ap (λ ps. ps ++ (q, y) ∷ []) first
          ∙ set_behind n q x y w.if-number-own.true ∙ named
      | else-number-own w ↦
          let first = w.push_reserved-else-number-own.ensures.items ∙ ap (λ ps. ps ++ (q, y) ∷ []) c.in_ok-parts.ensures.items in
          let apart = another (parts_of c.args.self.now) n (g.T.Subtree.number c.args.block) x (there g c) c.requires.apart in
          ap (λ v. v.items) w.parts-is ∙ w.push_reserved-else-number-own-2.ensures.items ∙ ap (λ ps. ps ++ (n, x) ∷ []) first
          ∙ set_before n q x y (above_it n q w.if-number-own.false (λ e. apart (e ∙ c.number_of-own.ensures))) ∙ named
    ]

pub returns-clause-ok : goal.returns-clause-ok
returns-clause-ok g c =
    ap (λ ps. flatten (slots_shown g.T.Subtree.slots ps)) (both g c)
    ∙ node.node-new g.T.Subtree.slots g.T.Subtree.number g.T.Subtree.whole g.T.Subtree.is_in g.met.T.Subtree.parted g.met.T.Subtree.upwards (parts_of c.args.self.now) c.requires.kept.0 c.args.block c.in_ok-part.part c.args.slot c.requires.apart c.in_ok-part.ensures.slots

pub returns-clause-kept : goal.returns-clause-kept
returns-clause-kept g c = (
  subst (IsNode g.T.Subtree.whole g.T.Subtree.is_in) (sym (both g c))
      (node.node-more g.T.Subtree.slots g.T.Subtree.number g.T.Subtree.whole g.T.Subtree.is_in g.met.T.Subtree.parted g.met.T.Subtree.upwards (parts_of c.args.self.now) c.requires.kept.0 (g.T.Subtree.number c.args.block) c.in_ok-part.part c.in_ok-part.ensures.kept c.in_ok-part.ensures.inside),
  λ none. set_some (parts_of c.args.self.now) (g.T.Subtree.number c.args.block) c.in_ok-part.part (sym (both g c) ∙ none),
)
