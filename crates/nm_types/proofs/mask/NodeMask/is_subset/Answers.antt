use Rattle.std.proofs.Common.{ℕ, List, ap, ◌∙◌}
use Rattle.std.specs.Prelude.{◌==◌}
use Rattle.nm_types.specs.Nodes.{mask_of, is_in}
use Rattle.nm_types.proofs.Together.{mask_of-subset}
use Rattle.nm_types.proofs.mask.NodeMask.is_subset.Goals as goal

pub returns : goal.returns
returns c =
    c.eq.ensures
    ∙ ap (λ (ns : List ℕ). mask_of ns == mask_of c.args.self) c.intersection.ensures
    ∙ mask_of-subset (is_in c.args.other) c.args.self
