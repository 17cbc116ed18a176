use Rattle.std.proofs.Common.{◌≡◌, ap, subst, ◌∙◌}
use Rattle.std.proofs.lemmas.Result.{on_err_weaker}
use Rattle.std.specs.Prelude.{None}
use Rattle.std.specs.Ordering.{nat_cmp}
use Rattle.nm_types.specs.Map.{get}
use Rattle.nm_tables.proofs.Slots.{blocks-none, ordered_by}
use Rattle.nm_tables.proofs.table.PageTable.set.Goals as goal

pub returns-clause-empty : goal.returns-clause-empty
returns-clause-empty g c =
    let b = c.self.inside.blocks in
    on_err_weaker c.set.result (λ none v same. subst (λ m. get nat_cmp m v ≡ None) c.self.view_is (blocks-none b.leaves.items b.index c.self.invariant.0 v (ap (get nat_cmp b.index) same ∙ none))) c.set.ensures.empty

pub returns-clause-ordered : goal.returns-clause-ordered
returns-clause-ordered g c = ordered_by c.self.inside.blocks c.args.self.now c.self.view_is c.self.invariant
