use Rattle.std.proofs.Common.{◌∙◌, ap, sym, eq-eqb}
use Rattle.std.proofs.lemmas.Bool.{eqb-true}
use Rattle.nm_types.specs.Nodes.{members, mask_of}
use Rattle.nm_types.specs.declared.mask.NodeMask.TheInside.{Inside}
use Rattle.nm_types.specs.Masks.{mask_of-members}
use Rattle.nm_types.proofs.Members.{members-zero}
use Rattle.nm_types.proofs.mask.NodeMask.is_empty.Goals as goal

pub returns : goal.returns
returns c = (
  λ h. sym c.self.view_is ∙ (ap members (eqb-true c.self.inside.bits 0 h) ∙ members-zero),
  λ h. eq-eqb c.self.inside.bits 0 (sym (ap (λ (a : Inside). a.bits) (mask_of-members c.self.inside c.self.invariant)) ∙ ap mask_of (c.self.view_is ∙ h)),
)
