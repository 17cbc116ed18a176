use Rattle.std.proofs.Common.{ℕ, List, sym, ◌∙◌, ap, arith}
use Rattle.nm_types.specs.Nodes.{without_node}
use Rattle.nm_types.proofs.Lowest.{members-remove, members-remove_none}
use Rattle.nm_types.proofs.mask.NodeMask.remove.Goals as goal

pub returns-then-number-lt64 : goal.returns-then-number-lt64
returns-then-number-lt64 c =
    members-remove c.self.inside.bits c.number-then-number-lt64.result (omega arith)
    ∙ ap (λ (ns : List ℕ). without_node ns c.number-then-number-lt64.result) c.self.view_is
    ∙ ap (λ (n : ℕ). without_node c.args.self.now n) c.number-then-number-lt64.ensures

pub returns-else-number-lt64 : goal.returns-else-number-lt64
returns-else-number-lt64 c =
    sym c.self.view_is
    ∙ members-remove_none c.self.inside.bits c.number.result c.if-number-lt64.false
    ∙ ap (λ (ns : List ℕ). without_node ns c.number.result) c.self.view_is
    ∙ ap (λ (n : ℕ). without_node c.args.self.now n) c.number.ensures
