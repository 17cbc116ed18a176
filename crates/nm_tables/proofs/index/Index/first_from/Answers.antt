use Rattle.std.proofs.Common.{◌≡◌, ◌≤◌, ◌<◌, ℕ, sym, ap, subst, ◌∙◌}
use Rattle.std.specs.Prelude.{Some, None, IfSome, IfNone}
use Rattle.std.specs.Ordering.{nat_cmp}
use Rattle.nm_types.specs.Map.{get}
use Rattle.nm_tables.specs.views.Index.{root_slots}
use Rattle.nm_tables.proofs.Trees.{ordered_by}
use Rattle.nm_tables.proofs.index.Index.first_from.Goals as goal

pub returns-in-None-clause-ordered : goal.returns-in-None-clause-ordered
returns-in-None-clause-ordered g c = ordered_by c.self.inside.root c.args.self.now c.self.view_is c.self.invariant

pub returns-in-Some-clause-ordered : goal.returns-in-Some-clause-ordered
returns-in-Some-clause-ordered g c = ordered_by c.self.inside.root c.args.self.now c.self.view_is c.self.invariant

pub returns-in-Some-clause-some : goal.returns-in-Some-clause-some
returns-in-Some-clause-some g c =
    let shown = sym (ap (root_slots {A = g.row.A.Denot}) c.in-Some.is) ∙ c.self.view_is in
    subst (λ m. IfSome c.first_from.result (λ e. (c.args.at ≤ e.0) × (get nat_cmp m e.0 ≡ Some e.1))) shown c.first_from.ensures.some

pub returns-in-Some-clause-first : goal.returns-in-Some-clause-first
returns-in-Some-clause-first g c =
    let shown = sym (ap (root_slots {A = g.row.A.Denot}) c.in-Some.is) ∙ c.self.view_is in
    subst (λ m. IfSome c.first_from.result (λ e. (v : ℕ) → c.args.at ≤ v → v < e.0 → get nat_cmp m v ≡ None)) shown c.first_from.ensures.first

pub returns-in-Some-clause-none : goal.returns-in-Some-clause-none
returns-in-Some-clause-none g c =
    let shown = sym (ap (root_slots {A = g.row.A.Denot}) c.in-Some.is) ∙ c.self.view_is in
    subst (λ m. IfNone c.first_from.result ((v : ℕ) → c.args.at ≤ v → get nat_cmp m v ≡ None)) shown c.first_from.ensures.none
