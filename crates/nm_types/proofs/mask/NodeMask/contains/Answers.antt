use Rattle.std.proofs.Common.{◌∙◌, ap, sym, arith}
use Rattle.std.specs.Prelude.{nat_eq}
use Rattle.std.proofs.lemmas.Bool.{le-ltb}
use Rattle.std.proofs.lemmas.Nat.Bits.{shr_and_one}
use Rattle.nm_types.specs.Nodes.{is_in}
use Rattle.nm_types.proofs.Members.{is_in-members, is_in-members_above}
use Rattle.nm_types.proofs.mask.NodeMask.contains.Goals as goal

pub returns-then-number-lt64 : goal.returns-then-number-lt64
returns-then-number-lt64 c =
    ap (λ x. nat_eq x 1) (shr_and_one c.self.inside.bits c.number-then-number-lt64.result)
    ∙ sym (is_in-members c.self.inside.bits c.number-then-number-lt64.result (omega arith))
    ∙ ap (λ m. is_in m c.number-then-number-lt64.result) c.self.view_is
    ∙ ap (λ n. is_in c.args.self n) c.number-then-number-lt64.ensures

pub returns-else-number-lt64 : goal.returns-else-number-lt64
returns-else-number-lt64 c =
    le-ltb c.number.result 64 c.if-number-lt64.false
    ∙ sym (is_in-members_above c.self.inside.bits c.number.result c.if-number-lt64.false)
    ∙ ap (λ m. is_in m c.number.result) c.self.view_is
    ∙ ap (λ n. is_in c.args.self n) c.number.ensures
