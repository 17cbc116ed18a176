use Rattle.std.proofs.Common.{◌^◌, ◌∙◌, ap, arith}
use Rattle.std.specs.Ordering.{nat_cmp}
use Rattle.std.specs.BTreeSet.{insert_key}
use Rattle.std.proofs.lemmas.Nat.{or_lt, mod_below}
use Rattle.nm_types.proofs.Members.{members-insert}
use Rattle.nm_types.proofs.mask.NodeMask.insert.Goals as goal

pub invariant_of-self : goal.invariant_of-self
invariant_of-self c = or_lt 64 _ _ c.self.invariant (mod_below _ (2 ^ 64) (omega arith))

pub returns : goal.returns
returns c =
    members-insert c.self.inside.bits c.number.result (omega arith)
    ∙ ap (λ m. insert_key nat_cmp m c.number.result) c.self.view_is
    ∙ ap (λ n. insert_key nat_cmp c.args.self.now n) c.number.ensures
