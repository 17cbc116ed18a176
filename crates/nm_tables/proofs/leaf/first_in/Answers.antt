use Rattle.std.proofs.Common.{◌≡◌, ◌+◌, ◌*◌, ◌≤◌, sym, ap, subst, ◌∙◌, arith}
use Rattle.std.specs.Ordering.{nat_cmp}
use Rattle.nm_types.specs.Map.{get}
use Rattle.nm_types.proofs.Cases.{none_always}
use Rattle.nm_tables.specs.views.Leaves.{leaf_entries}
use Rattle.nm_tables.proofs.Leaves.{leaf-at, leaf-none}
use Rattle.nm_tables.proofs.leaf.first_in.Goals as goal

pub returns-in_err-place-clause-none : goal.returns-in_err-place-clause-none
returns-in_err-place-clause-none c =
    none_always c.from_residual.result (λ v low. leaf-none c.args.leaf.now v (λ i l e.
    c.in_err-place.ensures.none i (c.place_from.ensures.first i l (omega (arith, e, low))) l))

pub returns-clause-some : goal.returns-clause-some
returns-clause-some c =
    let p = c.args.leaf.now in
    let some = c.in_ok-place.ensures.some in
    let at : c.new.result ≡ p.block * 512 + c.in_ok-place.place = c.new.ensures in (
      subst (λ n. c.args.at ≤ n) (sym at) (c.place_from.ensures.last c.in_ok-place.place some.0 some.1),
      ap (get nat_cmp (leaf_entries p)) at ∙ leaf-at p c.in_ok-place.place some.1 ∙ some.2,
    )

pub returns-clause-first : goal.returns-clause-first
returns-clause-first c v low high =
    let at = c.new.ensures in
    leaf-none c.args.leaf.now v (λ i l e. c.in_ok-place.ensures.first i (c.place_from.ensures.first i l (omega (arith, e, low))) (omega (arith, e, high, at)))
