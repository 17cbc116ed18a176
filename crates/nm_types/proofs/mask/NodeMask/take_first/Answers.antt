use Rattle.std.proofs.Common.{◌≡◌, ◌<◌, ℕ, List, [], drop, Some, refl, sym, ap, ◌∙◌, arith}
use Rattle.std.specs.Prelude.{slice_get}
use Rattle.nm_types.specs.Nodes.{members}
use Rattle.nm_types.proofs.Members.{members-zero}
use Rattle.nm_types.proofs.Lowest.{members-without_first}
use Rattle.nm_types.proofs.mask.NodeMask.take_first.Goals as goal

pub returns-then-self-eq0-clause-first : goal.returns-then-self-eq0-clause-first
returns-then-self-eq0-clause-first c =
    let empty : c.args.self.now ≡ [] = sym c.self.view_is ∙ ap members c.if-self-eq0.true ∙ members-zero in
    rw empty refl

pub returns-then-self-eq0-clause-rest : goal.returns-then-self-eq0-clause-rest
returns-then-self-eq0-clause-rest c =
    let empty : c.args.self.now ≡ [] = sym c.self.view_is ∙ ap members c.if-self-eq0.true ∙ members-zero in
    rw empty refl

pub returns-clause-first : goal.returns-clause-first
returns-clause-first c =
    let some : 0 < c.self.inside.bits = omega arith in
    let parted = sym c.self.view_is ∙ members-without_first c.self.inside.bits some c.self.invariant in
    ap Some c.new.ensures ∙ sym (ap (λ (ns : List ℕ). slice_get ns 0) parted)

pub returns-clause-rest : goal.returns-clause-rest
returns-clause-rest c =
    let some : 0 < c.self.inside.bits = omega arith in
    let parted = sym c.self.view_is ∙ members-without_first c.self.inside.bits some c.self.invariant in
    sym (ap (drop 1) parted)
