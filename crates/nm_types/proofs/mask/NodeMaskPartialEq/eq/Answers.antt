use Rattle.std.proofs.Common.{◌≡◌, ◌∙◌, ap, sym}
use Rattle.nm_types.specs.Nodes.{mask_of}
use Rattle.nm_types.specs.declared.mask.NodeMask.TheInside.{Inside}
use Rattle.nm_types.specs.Masks.{mask_of-members}
use Rattle.nm_types.proofs.mask.NodeMaskPartialEq.eq.Goals as goal

pub returns : goal.returns
returns c =
    let one : mask_of c.args.self.now ≡ c.t1-1.inside.bits = ap mask_of (sym c.t1-1.view_is) ∙ ap (λ (a : Inside). a.bits) (mask_of-members c.t1-1.inside c.t1-1.invariant) in
    let two : mask_of c.args.other.now ≡ c.t2-1.inside.bits = ap mask_of (sym c.t2-1.view_is) ∙ ap (λ (a : Inside). a.bits) (mask_of-members c.t2-1.inside c.t2-1.invariant) in
    rw (one, two) c.eq.ensures
