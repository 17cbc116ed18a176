use Rattle.std.proofs.Common.{ℕ, List, ap, ◌∙◌}
use Rattle.std.specs.List.{filter}
use Rattle.nm_types.specs.Nodes.{members, is_in}
use Rattle.nm_types.proofs.Together.{members-intersection}
use Rattle.nm_types.proofs.mask.NodeMask.intersection.Goals as goal

pub returns : goal.returns
returns c =
    members-intersection c.self.inside.bits c.other.inside.bits
    ∙ ap (λ (ns : List ℕ). filter (is_in ns) (members c.self.inside.bits)) c.other.view_is
    ∙ ap (λ (ns : List ℕ). filter (is_in c.args.other) ns) c.self.view_is
